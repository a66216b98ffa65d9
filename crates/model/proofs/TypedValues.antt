-- The type of a value, from the types that its atoms were given when they were made.
-- Assumes nothing.
use Prim.Native.Nat.{ℕ, zero, suc, ◌<◌}
use mathlib.Core.Path.{◌≡◌, refl, sym, ap, ap₂, subst, ◌∙◌}
use mathlib.Core.Bool.{Bool, true, false, cond, decide}
use mathlib.Core.List.{List, [], ◌∷◌, ◌++◌}
use native.Mathlib.Omega.{arith}
use native.Mathlib.Decide.{ℕ_discrete}
use lib.Dec.{T, eqb, eqb→eq, eqb_refl}
use lib.ListN.{length, replicate}
use Rattle.model.specs.Basics.{All}
use Rattle.model.specs.Types.{typed, below}
use Rattle.model.specs.declared.Ty.{Ty}
use Rattle.model.specs.declared.Ty.TheVariants.{Un, None}
use Rattle.model.specs.Typing.{decrypt_ok, decrypt_type, type_at}
use Rattle.model.specs.Value.{Value, const, fresh, enc, dec, div, same, decrypt, value-discrete, value_at}
use Rattle.model.specs.Session.{Finished, outcomes_of}
use Rattle.model.proofs.Tests.{and_left, and_right, and_both}
use Rattle.model.proofs.TypeOrder.{below_typed}
use Rattle.model.proofs.TypeRules.{enc_type, dec_type, div_type, decrypt_sound, undo_sound, enc_parts_typed, dec_parts_typed, div_part_typed}

-- ---- equal values

decided : {P : Type 0} (d : Dec P) → T (decide d) → P
unfolding decide
decided (yes p) t = p
decided (no f) t = absurd t

pub same_equal : (v w : Value) → T (same v w) → v ≡ w
unfolding same
same_equal v w t = decided (value-discrete ℕ_discrete v w) t

pub outcomes_snoc : (fs : List Finished) (f : Finished) → outcomes_of (fs ++ f ∷ []) ≡ outcomes_of fs ++ f.outcome ∷ []
outcomes_snoc [] f = refl
outcomes_snoc (g ∷ gs) f = ap (λ os. g.outcome ∷ os) (outcomes_snoc gs f)

-- ---- the types of atoms

-- the type that each atom was given; None for one that is not made yet
abbrev pub Births : Type 0
Births = ℕ → Ty

-- later births: atoms that had a type keep it
abbrev pub Later : Births → Births → Type 0
Later Θ Θ' = (n : ℕ) → T (typed (Θ n)) → Θ' n ≡ Θ n

pub later_refl : (Θ : Births) → Later Θ Θ
later_refl Θ n h = refl

pub later_trans : (Θ₁ Θ₂ Θ₃ : Births) → Later Θ₁ Θ₂ → Later Θ₂ Θ₃ → Later Θ₁ Θ₃
later_trans Θ₁ Θ₂ Θ₃ e f n h = f n (subst (λ (x : Ty). T (typed x)) (sym (e n h)) h) ∙ e n h

-- one more atom
abbrev pub born : Births → ℕ → Ty → Births
born Θ n τ m = cond (eqb m n) τ (Θ m)

pub born_later : (Θ : Births) (n : ℕ) (τ : Ty) → Θ n ≡ None → Later Θ (born Θ n τ)
born_later Θ n τ e m h = go (eqb m n) (λ t. eqb→eq m n t)
  where
    go : (b : Bool) → (T b → m ≡ n) → cond b τ (Θ m) ≡ Θ m
    go true f = absurd (subst (λ (x : Ty). T (typed x)) (ap Θ (f tt) ∙ e) h)
    go false f = refl

pub born_at : (Θ : Births) (n : ℕ) (τ : Ty) → born Θ n τ n ≡ τ
born_at Θ n τ = go (eqb n n) (eqb_refl n)
  where
    go : (b : Bool) → T b → cond b τ (Θ n) ≡ τ
    go true t = refl
    go false t = absurd t

pub born_other : (Θ : Births) (n : ℕ) (τ : Ty) (m : ℕ) → n < m → born Θ n τ m ≡ Θ m
born_other Θ n τ m h = go (eqb m n) (λ t. eqb→eq m n t)
  where
    go : (b : Bool) → (T b → m ≡ n) → cond b τ (Θ m) ≡ Θ m
    go true f = absurd (let q : m ≡ n = f tt in omega arith)
    go false f = refl

-- ---- the type of a value, where r is the transported type

abbrev pub type_in : Births → Ty → Value → Ty
type_in Θ r (const n) = Un
type_in Θ r (fresh n) = Θ n
type_in Θ r (enc v k) = enc_type r (type_in Θ r v) (type_in Θ r k)
type_in Θ r (dec v k) = dec_type r (type_in Θ r v) (type_in Θ r k)
type_in Θ r (div l v) = div_type l (type_in Θ r v)

pub type_kept : (Θ Θ' : Births) (r : Ty) → Later Θ Θ' → (v : Value) → T (typed (type_in Θ r v)) → type_in Θ' r v ≡ type_in Θ r v
type_kept Θ Θ' r e (const n) h = refl
type_kept Θ Θ' r e (fresh n) h = e n h
type_kept Θ Θ' r e (enc v k) h =
    let both = enc_parts_typed r (type_in Θ r v) (type_in Θ r k) h in
    ap₂ (enc_type r) (type_kept Θ Θ' r e v (and_left (typed (type_in Θ r v)) (typed (type_in Θ r k)) both))
    (type_kept Θ Θ' r e k (and_right (typed (type_in Θ r v)) (typed (type_in Θ r k)) both))
type_kept Θ Θ' r e (dec v k) h =
    let both = dec_parts_typed r (type_in Θ r v) (type_in Θ r k) h in
    ap₂ (dec_type r) (type_kept Θ Θ' r e v (and_left (typed (type_in Θ r v)) (typed (type_in Θ r k)) both))
    (type_kept Θ Θ' r e k (and_right (typed (type_in Θ r v)) (typed (type_in Θ r k)) both))
type_kept Θ Θ' r e (div l v) h = ap (div_type l) (type_kept Θ Θ' r e v (div_part_typed l (type_in Θ r v) h))

-- the value has a type, and it is below τ
abbrev pub Has : Births → Ty → Value → Ty → Type 0
Has Θ r v τ = T (below (type_in Θ r v) τ)

pub has_kept : (Θ Θ' : Births) (r : Ty) → Later Θ Θ' → (v : Value) (τ : Ty) → Has Θ r v τ → Has Θ' r v τ
has_kept Θ Θ' r e v τ h =
    subst (λ (x : Ty). T (below x τ)) (sym (type_kept Θ Θ' r e v (below_typed (type_in Θ r v) τ h))) h

-- decryption as the rules have it: what is opened, and what stays undone, has the type that the rule gives
pub decrypt_has : (Θ : Births) (r : Ty) → T (typed r) → (v k : Value) (x y : Ty) → Has Θ r v x → Has Θ r k y → T (decrypt_ok x y)
    → Has Θ r (decrypt v k) (decrypt_type r y)
decrypt_has Θ r hr (const n) k x y hv hk ok =
    decrypt_sound r Un (type_in Θ r k) x y hr (and_both (below Un x) (below (type_in Θ r k) y) hv hk) ok
decrypt_has Θ r hr (fresh n) k x y hv hk ok =
    decrypt_sound r (Θ n) (type_in Θ r k) x y hr (and_both (below (Θ n) x) (below (type_in Θ r k) y) hv hk) ok
decrypt_has Θ r hr (enc v l) k x y hv hk ok = go (same l k) (λ t. same_equal l k t)
  where
    go : (b : Bool) → (T b → l ≡ k) → Has Θ r (cond b v (dec (enc v l) k)) (decrypt_type r y)
    go true f =
        undo_sound r (type_in Θ r v) (type_in Θ r l) x y hv (subst (λ (z : Value). Has Θ r z y) (sym (f tt)) hk) ok
    go false f =
        decrypt_sound r (type_in Θ r (enc v l)) (type_in Θ r k) x y hr
        (and_both (below (type_in Θ r (enc v l)) x) (below (type_in Θ r k) y) hv hk) ok
decrypt_has Θ r hr (dec v l) k x y hv hk ok =
    decrypt_sound r (type_in Θ r (dec v l)) (type_in Θ r k) x y hr
    (and_both (below (type_in Θ r (dec v l)) x) (below (type_in Θ r k) y) hv hk) ok
decrypt_has Θ r hr (div l v) k x y hv hk ok =
    decrypt_sound r (type_in Θ r (div l v)) (type_in Θ r k) x y hr
    (and_both (below (type_in Θ r (div l v)) x) (below (type_in Θ r k) y) hv hk) ok

-- ---- the values of a call have its static types, each at its place

abbrev pub Match : Births → Ty → List Ty → List Value → Type 0
Match Θ r [] [] = Unit {0}
Match Θ r [] (v ∷ vs) = ⊥
Match Θ r (τ ∷ g) [] = ⊥
Match Θ r (τ ∷ g) (v ∷ vs) = Has Θ r v τ × Match Θ r g vs

pub match_kept : (Θ Θ' : Births) (r : Ty) → Later Θ Θ' → (g : List Ty) (vs : List Value) → Match Θ r g vs → Match Θ' r g vs
match_kept Θ Θ' r e [] [] h = tt
match_kept Θ Θ' r e [] (v ∷ vs) h = h
match_kept Θ Θ' r e (τ ∷ g) [] h = h
match_kept Θ Θ' r e (τ ∷ g) (v ∷ vs) h = (has_kept Θ Θ' r e v τ h.0, match_kept Θ Θ' r e g vs h.1)

pub match_snoc : (Θ : Births) (r : Ty) (g : List Ty) (vs : List Value) (τ : Ty) (v : Value)
    → Match Θ r g vs → Has Θ r v τ → Match Θ r (g ++ τ ∷ []) (vs ++ v ∷ [])
match_snoc Θ r [] [] τ v h p = (p, tt)
match_snoc Θ r [] (w ∷ vs) τ v h p = absurd h
match_snoc Θ r (σ ∷ g) [] τ v h p = absurd h
match_snoc Θ r (σ ∷ g) (w ∷ vs) τ v h p = (h.0, match_snoc Θ r g vs τ v h.1 p)

pub match_at : (Θ : Births) (r : Ty) (g : List Ty) (vs : List Value) (i : ℕ) → Match Θ r g vs → Has Θ r (value_at vs i) (type_at g i)
match_at Θ r [] [] i h = tt
match_at Θ r [] (w ∷ vs) i h = absurd h
match_at Θ r (σ ∷ g) [] i h = absurd h
match_at Θ r (σ ∷ g) (w ∷ vs) zero h = h.0
match_at Θ r (σ ∷ g) (w ∷ vs) (suc i) h = match_at Θ r g vs i h.1

-- as many values as parameters, all of them Un
pub match_start : (Θ : Births) (r : Ty) (vs : List Value) (n : ℕ) → length vs ≡ n → All (λ v. Has Θ r v Un) vs → Match Θ r (replicate n Un) vs
match_start Θ r [] zero e h = tt
match_start Θ r [] (suc n) e h = absurd (omega arith)
match_start Θ r (v ∷ vs) zero e h = absurd (omega arith)
match_start Θ r (v ∷ vs) (suc n) e h = (h.0, match_start Θ r vs n (omega arith) h.1)
