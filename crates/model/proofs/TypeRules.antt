-- What the typing rules mean for values whose own types are below the static ones: each fact is a test that antt computes over all types,
-- or over all templates. A new type or a changed rule only recomputes them.
-- Assumes nothing.
use Prim.Native.Nat.{ℕ, ◌<◌}
use mathlib.Core.Bool.{Bool, not, cond, ◌&&◌}
use native.Mathlib.Omega.{arith}
use lib.Dec.{T}
use Rattle.model.specs.Basics.{implies, every, up_from}
use Rattle.model.specs.Types.{is, typed, below, join, type_of}
use Rattle.model.specs.declared.Ty.{Ty}
use Rattle.model.specs.declared.Ty.TheVariants.{Un, Seed, None}
use Rattle.model.specs.Policy.{templates}
use Rattle.model.specs.Typing.{return_ok, store_ok, encrypt_ok, decrypt_ok, decrypt_type, derive_ok, seed_types, seed_gives, derive_type}
use Rattle.model.specs.Token.{guards_generated, guards_stored}
use Rattle.model.proofs.Lists.{all_get_d}
use Rattle.model.proofs.Tests.{apply, apply₂, apply₃, at_all, each, each₂, each₃, each₅, every_in_range}

-- ---- the types of an encryption and of an undone encryption, from those of message and key, by the rules themselves

abbrev pub enc_type : Ty → Ty → Ty → Ty
enc_type r m k = cond (encrypt_ok r m k) Un None

abbrev pub dec_type : Ty → Ty → Ty → Ty
dec_type r m k = cond (decrypt_ok m k) (decrypt_type r k) None

-- and of what is derived, from that of what it is derived from; z is what a seed gives
abbrev derived : Ty → Ty → Ty
derived z k = cond (derive_ok k) (cond (is k Seed) z Un) None

abbrev pub div_type : ℕ → Ty → Ty
div_type l k = derived (seed_gives l) k

-- m and k are the types of message and key, x and y the static types above them

pub encrypt_sound : (r m k x y : Ty) → T (below m x) → T (below k y) → T (encrypt_ok r x y) → T (below (enc_type r m k) Un)
encrypt_sound r m k x y =
    apply₃ (below m x) (below k y) (encrypt_ok r x y) (below (enc_type r m k) Un)
    (each₅ (λ r m k x y. implies (below m x) (implies (below k y) (implies (encrypt_ok r x y) (below (enc_type r m k) Un)))) tt r m k x y)

pub decrypt_sound : (r m k x y : Ty) → T (typed r) → T (below m x && below k y) → T (decrypt_ok x y)
    → T (below (dec_type r m k) (decrypt_type r y))
decrypt_sound r m k x y =
    apply₃ (typed r) (below m x && below k y) (decrypt_ok x y) (below (dec_type r m k) (decrypt_type r y))
    (each₅
    (λ r m k x y. implies (typed r)
    (implies (below m x && below k y) (implies (decrypt_ok x y) (below (dec_type r m k) (decrypt_type r y)))))
    tt r m k x y)

-- what comes out of an encryption of m under k, where the ciphertext is below x and the key below y
pub undo_sound : (r m k x y : Ty) → T (below (enc_type r m k) x) → T (below k y) → T (decrypt_ok x y) → T (below m (decrypt_type r y))
undo_sound r m k x y =
    apply₃ (below (enc_type r m k) x) (below k y) (decrypt_ok x y) (below m (decrypt_type r y))
    (each₅
    (λ r m k x y. implies (below (enc_type r m k) x) (implies (below k y) (implies (decrypt_ok x y) (below m (decrypt_type r y)))))
    tt r m k x y)

-- what a seed gives has a type, whatever the label
seed_gives_typed : (l : ℕ) → T (typed (seed_gives l))
seed_gives_typed l = all_get_d (λ z. T (typed z)) seed_types l _ (tt, (tt, tt)) tt

pub derive_sound : (l : ℕ) (k y : Ty) → T (below k y) → T (derive_ok y) → T (below (div_type l k) (derive_type l y))
derive_sound l k y =
    apply₃ (typed (seed_gives l)) (below k y) (derive_ok y) (below (div_type l k) (derive_type l y))
    (each₃
    (λ z k y. implies (typed z) (implies (below k y) (implies (derive_ok y) (below (derived z k) (cond (is y Seed) z Un)))))
    tt (seed_gives l) k y)
    (seed_gives_typed l)

-- what has a type has parts that have one
pub enc_parts_typed : (r m k : Ty) → T (typed (enc_type r m k)) → T (typed m && typed k)
enc_parts_typed r m k =
    apply (typed (enc_type r m k)) (typed m && typed k)
    (each₃ (λ r m k. implies (typed (enc_type r m k)) (typed m && typed k)) tt r m k)

pub dec_parts_typed : (r m k : Ty) → T (typed (dec_type r m k)) → T (typed m && typed k)
dec_parts_typed r m k =
    apply (typed (dec_type r m k)) (typed m && typed k)
    (each₃ (λ r m k. implies (typed (dec_type r m k)) (typed m && typed k)) tt r m k)

pub div_part_typed : (l : ℕ) (k : Ty) → T (typed (div_type l k)) → T (typed k)
div_part_typed l k =
    apply (typed (div_type l k)) (typed k) (each₂ (λ z k. implies (typed (derived z k)) (typed k)) tt (seed_gives l) k)

-- what is derived from a value that is not Un is not Un
pub derived_not_open : (l : ℕ) (k : Ty) → T (not (is k Un)) → T (not (is (div_type l k) Un))
derived_not_open l k =
    apply₂ (not (is (seed_gives l) Un)) (not (is k Un)) (not (is (div_type l k) Un))
    (each₂ (λ z k. implies (not (is z Un)) (implies (not (is k Un)) (not (is (derived z k) Un)))) tt (seed_gives l) k)
    (all_get_d (λ z. T (not (is z Un))) seed_types l _ (tt, (tt, tt)) tt)

-- ---- return, store and get

pub return_sound : (a x : Ty) → T (below a x) → T (return_ok x) → T (below a Un)
return_sound a x =
    apply₂ (below a x) (return_ok x) (below a Un) (each₂ (λ a x. implies (below a x) (implies (return_ok x) (below a Un))) tt a x)

pub store_sound : (a x c : Ty) → T (below a x) → T (store_ok x c) → T (below a c)
store_sound a x c =
    apply₂ (below a x) (store_ok x c) (below a c)
    (each₃ (λ a x c. implies (below a x) (implies (store_ok x c) (below a c))) tt a x c)

-- a wider join stays above
pub below_wider_join : (a b c : Ty) → T (below a b) → T (below a (join c b))
below_wider_join a b c =
    apply (below a b) (below a (join c b)) (each₃ (λ a b c. implies (below a b) (below a (join c b))) tt a b c)

-- ---- what is guarded is not Un

pub at_template : (q : ℕ → Bool) → T (every q templates) → (t : ℕ) → t < 64 → T (q t)
at_template q h t l = every_in_range q 0 64 h t (omega arith) (omega arith)

-- a key generated under a template that guards it has the template's type, which is not Un
pub generated_guarded : (t : ℕ) → t < 64 → T (guards_generated t) → T (typed (type_of t)) → T (not (is (type_of t) Un))
unfolding up_from
generated_guarded t l =
    apply₂ (guards_generated t) (typed (type_of t)) (not (is (type_of t) Un))
    (at_template (λ t. implies (guards_generated t) (implies (typed (type_of t)) (not (is (type_of t) Un)))) tt t l)

-- what may be stored under a template that guards it is not Un: TData, Wrap and Seed have nothing below them
pub stored_guarded : (t : ℕ) (a : Ty) → t < 64 → T (guards_stored t) → T (below a (type_of t)) → T (not (is a Un))
unfolding up_from
stored_guarded t a l =
    apply₂ (guards_stored t) (below a (type_of t)) (not (is a Un))
    (each (λ x. implies (guards_stored t) (implies (below x (type_of t)) (not (is x Un))))
    (at_template (λ t. at_all (λ x. implies (guards_stored t) (implies (below x (type_of t)) (not (is x Un))))) tt t l) a)
