-- Demand 3: with a policy that reading lets through and commands that it accepts, no session of any length, in any room, breaches the token.
-- The invariant: there are types of the atoms under which every value in hand is Un; every stored key has a handle that is Un, a template that
-- the policy allows and a value below its template's type; and every guarded value has a type that is not Un.
-- Assumes nothing.
use Prim.Native.Nat.{ℕ, zero, suc, ◌+◌, ◌≤◌, ◌<◌}
use mathlib.Core.Path.{◌≡◌, refl, sym, subst, ◌∙◌}
use mathlib.Core.Bool.{Bool, true, false, not, cond, ◌&&◌}
use mathlib.Core.List.{List, [], ◌∷◌, ◌++◌}
use native.Mathlib.Omega.{arith}
use lib.Dec.{T, eqb, ltb, eqb→eq, ltb→lt, T_not, not_T}
use lib.ListN.{length, replicate}
use Rattle.model.specs.Basics.{All, ◌else◌then◌, some, those, up_from, implies}
use Rattle.model.specs.Types.{is, typed, below, type_of}
use Rattle.model.specs.declared.Ty.{Ty}
use Rattle.model.specs.declared.Ty.TheVariants.{Un, None}
use Rattle.model.specs.Step.{op_of, Command}
use Rattle.model.specs.declared.Operation.{Operation}
use Rattle.model.specs.declared.Operation.TheVariants.{Encrypt, Decrypt, Derive}
use Rattle.model.specs.declared.Op.{Op}
use Rattle.model.specs.declared.Op.TheVariants.{Return, Get, Generate, Store, Compute, Unknown}
use Rattle.model.specs.Policy.{allows, meets, join_of, get_type, lawful}
use Rattle.model.specs.declared.Policy.{Policy}
use Rattle.model.specs.Typing.{return_ok, store_ok, encrypt_ok, decrypt_ok, derive_ok, refusal, gives, type_at, step_gives, step_findings, findings, verdict}
use Rattle.model.specs.Value.{Value, const, fresh, enc, dec, div, is_const, value_at, compute, operands, present}
use Rattle.model.specs.Token.{Key, World, State, Room, Out, gave, ended, stopped, full, and_then, fits, with_row, appear, new_atom, guard_if, keep, with_place, guards_generated, guards_stored, generate, store, place_of, key_at, get, perform, run_steps, command_at, call}
use Rattle.model.specs.Session.{Arg, constant, of_line, Line, calls, computes, Outcome, value, none, Finished, Flat, Session, outcomes_of, start, is_value, in_hand, breached, argument, appearing, with_arguments, run_line, finished_as, finish, Run, after_line, run_from, run}
use Rattle.model.specs.declared.Step.{Step}
use Rattle.model.proofs.Lists.{all_map, all_snoc, all_get_d, none_passes}
use Rattle.model.proofs.Tests.{and_left, and_right, and_both, either, apply, each, met, first_or_later}
use Rattle.model.proofs.TypeOrder.{below_trans, below_refl, below_typed, join_left}
use Rattle.model.proofs.TypeRules.{encrypt_sound, derive_sound, derived_not_open, return_sound, store_sound, below_wider_join, at_template, generated_guarded, stored_guarded}
use Rattle.model.proofs.TypedValues.{same_equal, outcomes_snoc, Births, Later, later_refl, later_trans, born, born_later, born_at, born_other, type_in, type_kept, Has, has_kept, decrypt_has, Match, match_kept, match_snoc, match_at, match_start}
use Rattle.model.proofs.Acceptance.{Met, SoundCommand, all_sound, no_refusal, no_steps_sound}

-- ---- a get is typed above every template that it may find

offered_below_join : (q : ℕ → Bool) (n k m : ℕ) → n ≤ m → m < n + k → T (q m) → T (typed (type_of m))
    → T (below (type_of m) (join_of (those q (up_from n k))))
unfolding up_from those join_of
offered_below_join q n zero m low high t ty = absurd (omega arith)
offered_below_join q n (suc k) m low high t ty =
    first_or_later n k m low high
    (λ e. subst (λ (i : ℕ). T (below (type_of m) (join_of (cond (q i) (i ∷ those q (up_from (suc n) k)) (those q (up_from (suc n) k)))))) e
    (here (q m) t))
    (λ l h. later (q n) (offered_below_join q (suc n) k m l h t ty))
  where
    here : (b : Bool) → T b → T (below (type_of m) (join_of (cond b (m ∷ those q (up_from (suc n) k)) (those q (up_from (suc n) k)))))
    here true u = join_left (type_of m) (join_of (those q (up_from (suc n) k))) ty
    here false u = absurd u

    later : (b : Bool) → T (below (type_of m) (join_of (those q (up_from (suc n) k))))
        → T (below (type_of m) (join_of (cond b (n ∷ those q (up_from (suc n) k)) (those q (up_from (suc n) k)))))
    later true u = below_wider_join (type_of m) (join_of (those q (up_from (suc n) k))) (type_of n) u
    later false u = u

pub is_un : (a : Ty) → T (below a Un) → T (is a Un)
is_un a = apply (below a Un) (is a Un) (each (λ x. implies (below x Un) (is x Un)) tt a)

-- a policy as reading lets it through
pub record Lawful (p : Policy) : Type 0 where
  pub typed_templates : T (lawful p)
  pub typed_transport : T (typed p.transported)

module _ (p : Policy) (lw : Lawful p) where
  abbrev r : Ty
  r = p.transported

  allowed_small : (t : ℕ) → T (allows p.allowing t) → t < 64
  allowed_small t a = ltb→lt t 64 (and_left (ltb t 64) _ a)

  allowed_typed : (t : ℕ) → T (allows p.allowing t) → T (typed (type_of t))
  allowed_typed t a =
      apply (allows p.allowing t) (typed (type_of t))
      (at_template (λ m. implies (allows p.allowing m) (typed (type_of m))) lw.typed_templates t (allowed_small t a)) a

  -- ---- the invariant of a state

  pub record KeyOk (Θ : Births) (k : Key) : Type 0 where
    pub open_handle : Has Θ p.transported k.handle Un
    pub kept_below : Has Θ p.transported k.key (type_of k.template)
    pub allowed : T (allows p.allowing k.template)

  pub record GuardOk (Θ : Births) (v : Value) : Type 0 where
    pub has_type : T (typed (type_in Θ p.transported v))
    pub not_open : T (not (is (type_in Θ p.transported v) Un))

  pub record Invariant (Θ : Births) (σ : State) : Type 0 where
    pub unmade : (n : ℕ) → σ.world.atoms ≤ n → Θ n ≡ None
    pub keys : All (KeyOk Θ) σ.token.stored
    pub guards : All (GuardOk Θ) σ.world.guarded

  key_kept : (Θ Θ' : Births) → Later Θ Θ' → (k : Key) → KeyOk Θ k → KeyOk Θ' k
  key_kept Θ Θ' e k h = record {
    open_handle = has_kept Θ Θ' r e k.handle Un h.open_handle;
    kept_below = has_kept Θ Θ' r e k.key (type_of k.template) h.kept_below;
    allowed = h.allowed;
  }

  guard_kept : (Θ Θ' : Births) → Later Θ Θ' → (v : Value) → GuardOk Θ v → GuardOk Θ' v
  guard_kept Θ Θ' e v h =
      let same_type = sym (type_kept Θ Θ' r e v h.has_type) in
      record {
        has_type = subst (λ (x : Ty). T (typed x)) same_type h.has_type;
        not_open = subst (λ (x : Ty). T (not (is x Un))) same_type h.not_open;
      }

  -- ---- what a step, a call or a line comes to is good: under later births the invariant holds and the value is as P says; a value that
  -- ends a call is Un

  abbrev About : Type 1
  About = Births → Value → Type 0

  abbrev OpenValue : About
  OpenValue Θ v = Has Θ p.transported v Un

  abbrev pub Good : Births → About → Out → Type 0
  Good Θ P (gave v σ) = (Θ' : Births) × Later Θ Θ' × Invariant Θ' σ × P Θ' v
  Good Θ P (ended v σ) = (Θ' : Births) × Later Θ Θ' × Invariant Θ' σ × Has Θ' p.transported v Un
  Good Θ P (stopped σ) = Unit {0}
  Good Θ P (full n σ) = Unit {0}

  good_if : (Θ : Births) (P : About) (b : Bool) (o q : Out) → (T b → Good Θ P o) → (T (not b) → Good Θ P q) → Good Θ P (cond b o q)
  good_if Θ P true o q f g = f tt
  good_if Θ P false o q f g = g tt

  good_later : (Θ Θ' : Births) (P : About) (o : Out) → Later Θ Θ' → Good Θ' P o → Good Θ P o
  good_later Θ Θ' P (gave v σ) e h = (h.0, later_trans Θ Θ' h.0 e h.1, h.2, h.3)
  good_later Θ Θ' P (ended v σ) e h = (h.0, later_trans Θ Θ' h.0 e h.1, h.2, h.3)
  good_later Θ Θ' P (stopped σ) e h = tt
  good_later Θ Θ' P (full n σ) e h = tt

  good_then : (Θ : Births) (P Q : About) (o : Out) (next : Value → State → Out) → Good Θ P o
      → ((Θ' : Births) (v : Value) (σ : State) → Later Θ Θ' → Invariant Θ' σ → P Θ' v → Good Θ' Q (next v σ))
      → Good Θ Q (and_then o next)
  good_then Θ P Q (gave v σ) next h f = good_later Θ h.0 Q (next v σ) h.1 (f h.0 v σ h.1 h.2 h.3)
  good_then Θ P Q (ended v σ) next h f = h
  good_then Θ P Q (stopped σ) next h f = tt
  good_then Θ P Q (full n σ) next h f = tt

  -- ---- what a step does

  appear_good : (Θ : Births) (P : About) (ρ : Room) (v : Value) (σ : State) → Invariant Θ σ → P Θ v → Good Θ P (appear ρ v σ)
  unfolding appear
  appear_good Θ P ρ v σ i h =
      let grown : State = record { world = with_row v σ.world; token = σ.token } in
      let fresh_row : Good Θ P (gave v grown) =
      (Θ, later_refl Θ, record { unmade = i.unmade; keys = i.keys; guards = i.guards }, h) in
      good_if Θ P (present v σ.world.rows) (gave v σ)
      (cond (fits ρ.rows (length σ.world.rows)) (gave v grown) (full 32 σ))
      (λ t. (Θ, later_refl Θ, i, h))
      (λ t. good_if Θ P (fits ρ.rows (length σ.world.rows)) (gave v grown) (full 32 σ) (λ u. fresh_row) (λ u. tt))

  -- a new atom of a type
  new_atom_good : (Θ : Births) (τ : Ty) (ρ : Room) (σ : State) → Invariant Θ σ
      → Good Θ (λ Θ' v. type_in Θ' p.transported v ≡ τ) (new_atom ρ σ)
  new_atom_good Θ τ ρ σ i =
      let n = σ.world.atoms in
      let Θ' : Births = born Θ n τ in
      let e : Later Θ Θ' = born_later Θ n τ (i.unmade n (omega arith)) in
      good_later Θ Θ' (λ Θ'' v. type_in Θ'' p.transported v ≡ τ) (new_atom ρ σ) e
      (appear_good Θ' (λ Θ'' v. type_in Θ'' p.transported v ≡ τ) ρ (fresh n) _
      (record {
        unmade = λ m l. born_other Θ n τ m (omega arith) ∙ i.unmade m (omega arith);
        keys = all_map (KeyOk Θ) (KeyOk Θ') (key_kept Θ Θ' e) σ.token.stored i.keys;
        guards = all_map (GuardOk Θ) (GuardOk Θ') (guard_kept Θ Θ' e) σ.world.guarded i.guards;
      })
      (born_at Θ n τ))

  guards_if : (Θ : Births) (b : Bool) (v : Value) (w : World) → (T b → GuardOk Θ v) → All (GuardOk Θ) w.guarded
      → All (GuardOk Θ) (guard_if b v w).guarded
  guards_if Θ true v w f h = all_snoc (GuardOk Θ) w.guarded v h (f tt)
  guards_if Θ false v w f h = h

  guard_if_atoms : (b : Bool) (v : Value) (w : World) → (guard_if b v w).atoms ≡ w.atoms
  guard_if_atoms true v w = refl
  guard_if_atoms false v w = refl

  keep_good : (Θ : Births) (guards : Bool) (h v : Value) (t : ℕ) (σ : State) → Invariant Θ σ
      → Has Θ p.transported h Un → Has Θ p.transported v (type_of t) → T (allows p.allowing t) → (T guards → GuardOk Θ v)
      → Good Θ OpenValue (keep guards h v t σ)
  keep_good Θ guards h v t σ i hh hv a g = (
    Θ,
    later_refl Θ,
    record {
      unmade = λ n l. i.unmade n (subst (λ (m : ℕ). m ≤ n) (guard_if_atoms guards v σ.world) l);
      keys = all_snoc (KeyOk Θ) σ.token.stored _ i.keys (record { open_handle = hh; kept_below = hv; allowed = a });
      guards = guards_if Θ guards v σ.world g i.guards;
    },
    hh,
  )

  exactly_below : (Θ : Births) (v : Value) (τ : Ty) → type_in Θ p.transported v ≡ τ → T (typed τ) → Has Θ p.transported v τ
  exactly_below Θ v τ e h = subst (λ (x : Ty). T (below x τ)) (sym e) (below_refl τ h)

  place_good : (Θ : Births) (P : About) (ρ : Room) (σ : State) (o : Out) → Good Θ P o → Good Θ P (with_place ρ σ o)
  place_good Θ P ρ σ o h = good_if Θ P (fits ρ.keys (length σ.token.stored)) o (full 33 σ) (λ room. h) (λ none_left. tt)

  -- the value has just this type
  abbrev Exactly : Ty → About
  Exactly τ Θ v = type_in Θ p.transported v ≡ τ

  generate_good : (Θ : Births) (ρ : Room) (t : ℕ) (σ : State) → Invariant Θ σ → T (allows p.allowing t) → Good Θ OpenValue (generate ρ t σ)
  unfolding generate
  generate_good Θ ρ t σ i a =
      let keyed : Value → Value → State → Out = λ h k σ₂. keep (guards_generated t) h k t σ₂ in
      let handled : Value → State → Out = λ h σ₁. and_then (new_atom ρ σ₁) (keyed h) in
      place_good Θ OpenValue ρ σ (and_then (new_atom ρ σ) handled)
      (good_then Θ (Exactly Un) OpenValue (new_atom ρ σ) handled (new_atom_good Θ Un ρ σ i)
      (λ Θ₁ h σ₁ e₁ i₁ h_open. good_then Θ₁ (Exactly (type_of t)) OpenValue (new_atom ρ σ₁) (keyed h)
      (new_atom_good Θ₁ (type_of t) ρ σ₁ i₁)
      (λ Θ₂ k σ₂ e₂ i₂ k_type. keep_good Θ₂ (guards_generated t) h k t σ₂ i₂
      (has_kept Θ₁ Θ₂ r e₂ h Un (exactly_below Θ₁ h Un h_open tt))
      (exactly_below Θ₂ k (type_of t) k_type (allowed_typed t a))
      a
      (λ g. record {
        has_type = subst (λ (x : Ty). T (typed x)) (sym k_type) (allowed_typed t a);
        not_open = subst (λ (x : Ty). T (not (is x Un))) (sym k_type) (generated_guarded t (allowed_small t a) g (allowed_typed t a));
      }))))

  store_good : (Θ : Births) (ρ : Room) (v : Value) (t : ℕ) (σ : State) → Invariant Θ σ → T (allows p.allowing t)
      → Has Θ p.transported v (type_of t) → Good Θ OpenValue (store ρ v t σ)
  unfolding store
  store_good Θ ρ v t σ i a hv =
      let handled : Value → State → Out = λ h σ₁. keep (guards_stored t) h v t σ₁ in
      place_good Θ OpenValue ρ σ (and_then (new_atom ρ σ) handled)
      (good_then Θ (Exactly Un) OpenValue (new_atom ρ σ) handled (new_atom_good Θ Un ρ σ i)
      (λ Θ₁ h σ₁ e₁ i₁ h_open.
      let hv₁ : Has Θ₁ p.transported v (type_of t) = has_kept Θ Θ₁ r e₁ v (type_of t) hv in
      keep_good Θ₁ (guards_stored t) h v t σ₁ i₁ (exactly_below Θ₁ h Un h_open tt) hv₁ a
      (λ g. record {
        has_type = below_typed (type_in Θ₁ p.transported v) (type_of t) hv₁;
        not_open = stored_guarded t (type_in Θ₁ p.transported v) (allowed_small t a) g hv₁;
      })))

  -- what a get finds has a type below the get's
  get_good : (Θ : Births) (ρ : Room) (s : Step) (h : Value) (σ : State) → Invariant Θ σ
      → Good Θ (λ Θ' v. Has Θ' p.transported v (get_type p.allowing s)) (get ρ s h σ)
  unfolding get
  get_good Θ ρ s h σ i =
      let ks = σ.token.stored in
      let k : Key = key_at ks (place_of h ks) in
      let found : Bool = ltb (place_of h ks) (length ks) in
      good_if Θ (λ Θ' v. Has Θ' p.transported v (get_type p.allowing s)) (found && meets s k.template) (appear ρ k.key σ) (stopped σ)
      (λ t. let ok : KeyOk Θ k = stored_ok Θ ks (place_of h ks) i.keys (ltb→lt (place_of h ks) (length ks) (and_left found (meets s k.template) t)) in
      appear_good Θ (λ Θ' v. Has Θ' p.transported v (get_type p.allowing s)) ρ k.key σ i
      (below_trans (type_in Θ p.transported k.key) (type_of k.template) (get_type p.allowing s) ok.kept_below
      (offered_below_join (λ m. allows p.allowing m && meets s m) 0 64 k.template (omega arith) (allowed_small_from k.template ok.allowed)
      (and_both (allows p.allowing k.template) (meets s k.template) ok.allowed (and_right found (meets s k.template) t))
      (allowed_typed k.template ok.allowed))))
      (λ t. tt)
    where
      allowed_small_from : (t : ℕ) → T (allows p.allowing t) → t < 0 + 64
      allowed_small_from t a = let small = allowed_small t a in omega arith

      stored_ok : (Θ : Births) (ks : List Key) (i : ℕ) → All (KeyOk Θ) ks → i < length ks → KeyOk Θ (key_at ks i)
      stored_ok Θ [] i h l = absurd (omega arith)
      stored_ok Θ (k ∷ ks) zero h l = h.0
      stored_ok Θ (k ∷ ks) (suc i) h l = stored_ok Θ ks i h.1 (omega arith)

  -- ---- a step that meets its rules, on values below the static types x and y

  compute_good : (Θ : Births) (o : Operation) (s : Step) (x y : Ty) (v w : Value) → refusal p (Compute o) s x y ≡ 0
      → Has Θ p.transported v x → Has Θ p.transported w y
      → Has Θ p.transported (compute o (operands o v w)) (gives p (Compute o) s x y)
  compute_good Θ Encrypt s x y v w e hv hw =
      encrypt_sound r (type_in Θ r v) (type_in Θ r w) x y hv hw (met (encrypt_ok r x y) 17 0 e).0
  compute_good Θ Decrypt s x y v w e hv hw = decrypt_has Θ r lw.typed_transport v w x y hv hw (met (decrypt_ok x y) 18 0 e).0
  compute_good Θ (Derive l) s x y v w e hv hw = derive_sound l (type_in Θ r w) y hw (met (derive_ok y) 22 0 e).0

  step_good : (Θ : Births) (ρ : Room) (o : Op) (s : Step) (x y : Ty) (v w : Value) (σ : State) → refusal p o s x y ≡ 0 → Invariant Θ σ
      → Has Θ p.transported v x → Has Θ p.transported w y
      → Good Θ (λ Θ' z. Has Θ' p.transported z (gives p o s x y)) (perform ρ o s v w σ)
  step_good Θ ρ Return s x y v w σ e i hv hw =
      (Θ, later_refl Θ, i, return_sound (type_in Θ r v) x hv (met (return_ok x) 20 0 e).0)
  step_good Θ ρ Get s x y v w σ e i hv hw = get_good Θ ρ s v σ i
  step_good Θ ρ Generate s x y v w σ e i hv hw = generate_good Θ ρ s.t σ i (met (allows p.allowing s.t) 15 0 e).0
  step_good Θ ρ Store s x y v w σ e i hv hw =
      let first = met (allows p.allowing s.t) 15 (store_ok x (type_of s.t) else 20 then 0) e in
      store_good Θ ρ v s.t σ i first.0
      (store_sound (type_in Θ r v) x (type_of s.t) hv (met (store_ok x (type_of s.t)) 19 0 first.1).0)
  step_good Θ ρ (Compute o) s x y v w σ e i hv hw =
      appear_good Θ (λ Θ' z. Has Θ' p.transported z (gives p (Compute o) s x y)) ρ (compute o (operands o v w)) σ i
      (compute_good Θ o s x y v w e hv hw)
  step_good Θ ρ Unknown s x y v w σ e i hv hw = tt

  -- ---- a call of a command whose steps meet their rules

  steps_good : (Θ : Births) (ρ : Room) (f n : ℕ) (g : List Ty) (ss : List Step) (vs : List Value) (σ : State)
      → All Met (step_findings p f n g ss) → Invariant Θ σ → Match Θ p.transported g vs → Good Θ OpenValue (run_steps ρ ss vs σ)
  unfolding run_steps step_findings
  steps_good Θ ρ f n g [] vs σ sound i mt = tt
  steps_good Θ ρ f n g (s ∷ ss) vs σ sound i mt =
      good_then Θ (λ Θ' z. Has Θ' p.transported z (step_gives p g s)) OpenValue
      (perform ρ (op_of s) s (value_at vs s.a) (value_at vs s.b) σ) (λ v σ'. run_steps ρ ss (vs ++ v ∷ []) σ')
      (step_good Θ ρ (op_of s) s (type_at g s.a) (type_at g s.b) (value_at vs s.a) (value_at vs s.b) σ sound.0 i
      (match_at Θ r g vs s.a mt) (match_at Θ r g vs s.b mt))
      (λ Θ' v σ' e i' hv. steps_good Θ' ρ f (suc n) (g ++ step_gives p g s ∷ []) ss (vs ++ v ∷ []) σ' sound.1 i'
      (match_snoc Θ' r g vs (step_gives p g s) v (match_kept Θ Θ' r e g vs mt) hv))

  abbrev AllOpen : Births → List Value → Type 0
  AllOpen Θ vs = All (λ v. Has Θ p.transported v Un) vs

  call_good : (Θ : Births) (ρ : Room) (cs : List Command) (c : ℕ) (vs : List Value) (σ : State)
      → All (SoundCommand p) cs → Invariant Θ σ → AllOpen Θ vs → Good Θ OpenValue (call ρ cs c vs σ)
  call_good Θ ρ cs c vs σ sound i hs =
      let d : Command = command_at cs c in
      good_if Θ OpenValue (eqb (length vs) d.params) (run_steps ρ d.steps vs σ) (stopped σ)
      (λ t. let findings_met : SoundCommand p d = all_get_d (SoundCommand p) cs c _ sound (no_steps_sound p) in
      steps_good Θ ρ findings_met.0 0 (replicate d.params Un) d.steps vs σ findings_met.1 i
      (match_start Θ r vs d.params (eqb→eq (length vs) d.params t) hs))
      (λ t. tt)

  -- ---- a line of the session: everything in hand is Un

  abbrev pub OutcomeOk : Births → Outcome → Type 0
  OutcomeOk Θ (value v) = Has Θ p.transported v Un
  OutcomeOk Θ none = Unit {0}

  outcome_kept : (Θ Θ' : Births) → Later Θ Θ' → (o : Outcome) → OutcomeOk Θ o → OutcomeOk Θ' o
  outcome_kept Θ Θ' e (value v) h = has_kept Θ Θ' r e v Un h
  outcome_kept Θ Θ' e none h = tt

  abbrev pub InHand : Births → List Outcome → Type 0
  InHand Θ os = All (OutcomeOk Θ) os

  hand_kept : (Θ Θ' : Births) → Later Θ Θ' → (os : List Outcome) → InHand Θ os → InHand Θ' os
  hand_kept Θ Θ' e os h = all_map (OutcomeOk Θ) (OutcomeOk Θ') (outcome_kept Θ Θ' e) os h

  argument_ok : (Θ : Births) (fs : List Finished) (a : Arg) → InHand Θ (outcomes_of fs) → OutcomeOk Θ (argument fs a)
  argument_ok Θ fs (constant n) h = tt
  argument_ok Θ fs (of_line i) h = all_get_d (OutcomeOk Θ) (outcomes_of fs) i none h tt

  appearing_good : (Θ : Births) (ρ : Room) (o : Outcome) (σ : State) → Invariant Θ σ → OutcomeOk Θ o → Good Θ OpenValue (appearing ρ o σ)
  appearing_good Θ ρ (value v) σ i h = appear_good Θ OpenValue ρ v σ i h
  appearing_good Θ ρ none σ i h = tt

  arguments_good : (Θ : Births) (ρ : Room) (fs : List Finished) (args : List Arg) (vs : List Value) (σ : State) (next : List Value → State → Out)
      → InHand Θ (outcomes_of fs) → AllOpen Θ vs → Invariant Θ σ
      → ((Θ' : Births) (ws : List Value) (σ' : State) → AllOpen Θ' ws → Invariant Θ' σ' → Good Θ' OpenValue (next ws σ'))
      → Good Θ OpenValue (with_arguments ρ fs args vs σ next)
  unfolding with_arguments
  arguments_good Θ ρ fs [] vs σ next hand open_values i good-next = good-next Θ vs σ open_values i
  arguments_good Θ ρ fs (a ∷ rest) vs σ next hand open_values i good-next =
      good_then Θ OpenValue OpenValue (appearing ρ (argument fs a) σ) (λ v σ'. with_arguments ρ fs rest (vs ++ v ∷ []) σ' next)
      (appearing_good Θ ρ (argument fs a) σ i (argument_ok Θ fs a hand))
      (λ Θ' v σ' e i' hv. arguments_good Θ' ρ fs rest (vs ++ v ∷ []) σ' next (hand_kept Θ Θ' e (outcomes_of fs) hand)
      (all_snoc (λ w. Has Θ' p.transported w Un) vs v
      (all_map (λ w. Has Θ p.transported w Un) (λ w. Has Θ' p.transported w Un) (λ w hw. has_kept Θ Θ' r e w Un hw) vs open_values) hv)
      i' good-next)

  open_at : (Θ : Births) (vs : List Value) (i : ℕ) → AllOpen Θ vs → Has Θ p.transported (value_at vs i) Un
  open_at Θ vs i h = all_get_d (λ w. Has Θ p.transported w Un) vs i (const 0) h tt

  -- what the attacker computes from values that are Un is Un
  open_computes_open : (Θ : Births) (o : Operation) (vs : List Value) → AllOpen Θ vs → Has Θ p.transported (compute o vs) Un
  open_computes_open Θ Encrypt vs h =
      encrypt_sound r (type_in Θ r (value_at vs 0)) (type_in Θ r (value_at vs 1)) Un Un (open_at Θ vs 0 h) (open_at Θ vs 1 h) tt
  open_computes_open Θ Decrypt vs h =
      decrypt_has Θ r lw.typed_transport (value_at vs 0) (value_at vs 1) Un Un (open_at Θ vs 0 h) (open_at Θ vs 1 h) tt
  open_computes_open Θ (Derive l) vs h = derive_sound l (type_in Θ r (value_at vs 0)) Un (open_at Θ vs 0 h) tt

  line_good : (Θ : Births) (ρ : Room) (cs : List Command) (fs : List Finished) (l : Line) (σ : State)
      → All (SoundCommand p) cs → Invariant Θ σ → InHand Θ (outcomes_of fs) → Good Θ OpenValue (run_line ρ cs fs l σ)
  line_good Θ ρ cs fs (calls c args) σ sound i hand =
      arguments_good Θ ρ fs args [] σ (λ vs σ'. call ρ cs c vs σ') hand tt i
      (λ Θ' vs σ' open_values i'. call_good Θ' ρ cs c vs σ' sound i' open_values)
  line_good Θ ρ cs fs (computes o args) σ sound i hand =
      arguments_good Θ ρ fs args [] σ (λ vs σ'. and_then (appear ρ (compute o vs) σ') (λ v σ''. ended v σ'')) hand tt i
      (λ Θ' vs σ' open_values i'. good_then Θ' OpenValue OpenValue (appear ρ (compute o vs) σ') (λ v σ''. ended v σ'')
      (appear_good Θ' OpenValue ρ (compute o vs) σ' i' (open_computes_open Θ' o vs open_values))
      (λ Θ'' v σ'' e i'' hv. (Θ'', later_refl Θ'', i'', hv)))

  -- ---- a guarded value is no constant and no value in hand

  guarded_not_const : (Θ : Births) (v : Value) → GuardOk Θ v → T (is_const v) → ⊥
  guarded_not_const Θ (const n) g t = g.not_open
  guarded_not_const Θ (fresh n) g t = t
  guarded_not_const Θ (enc v k) g t = t
  guarded_not_const Θ (dec v k) g t = t
  guarded_not_const Θ (div l v) g t = t

  not_open_not_value : (Θ : Births) (g : Value) (o : Outcome) → T (not (is (type_in Θ p.transported g) Un)) → OutcomeOk Θ o → T (is_value g o) → ⊥
  not_open_not_value Θ g (value v) closed h t =
      T_not (is (type_in Θ r g) Un) closed (is_un (type_in Θ r g) (subst (λ (w : Value). Has Θ r w Un) (sym (same_equal g v t)) h))
  not_open_not_value Θ g none closed h t = t

  guarded_not_in_hand : (Θ : Births) (os : List Outcome) (g : Value) → InHand Θ os → GuardOk Θ g → T (in_hand os g) → ⊥
  guarded_not_in_hand Θ os g hand ok t =
      either (is_const g) (some (is_value g) os) t (guarded_not_const Θ g ok)
      (none_passes (OutcomeOk Θ) (is_value g) (λ o h. not_open_not_value Θ g o ok.not_open h) os hand)

  -- what is derived from a guarded value is no value in hand either
  derived_not_in_hand : (Θ : Births) (os : List Outcome) (l : ℕ) (g : Value) → InHand Θ os → GuardOk Θ g → T (not (in_hand os (div l g)))
  derived_not_in_hand Θ os l g hand ok =
      let closed = derived_not_open l (type_in Θ r g) ok.not_open in
      not_T (in_hand os (div l g)) (none_passes (OutcomeOk Θ) (is_value (div l g)) (λ o h. not_open_not_value Θ (div l g) o closed h) os hand)

  flat : (Θ : Births) (guarded : List Value) (os : List Outcome) → All (GuardOk Θ) guarded → InHand Θ os → T (not (breached guarded os))
  flat Θ guarded os ok hand =
      not_T (breached guarded os) (none_passes (GuardOk Θ) (in_hand os) (λ g h. guarded_not_in_hand Θ os g hand h) guarded ok)

  -- ---- a session

  pub record Right (s : Session) : Type 0 where
    pub births : Births
    pub state_right : Invariant births s.state
    pub hand_open : InHand births (outcomes_of s.finished)
    pub marks_flat : All Flat s.finished

  finish_right : (Θ : Births) (o : Outcome) (σ : State) (s : Session) → Invariant Θ σ → InHand Θ (outcomes_of s.finished) → OutcomeOk Θ o
      → All Flat s.finished → Right (finish o σ s)
  finish_right Θ o σ s i hand ok marks =
      let f : Finished = finished_as o σ s.finished in
      let hand' : InHand Θ (outcomes_of s.finished ++ o ∷ []) = all_snoc (OutcomeOk Θ) (outcomes_of s.finished) o hand ok in
      record {
        births = Θ;
        state_right = i;
        hand_open = subst (InHand Θ) (sym (outcomes_snoc s.finished f)) hand';
        marks_flat = all_snoc Flat s.finished f marks (flat Θ σ.world.guarded (outcomes_of s.finished ++ o ∷ []) i.guards hand');
      }

  stays_right : (s : Session) → Right s → Right (finish none s.state s)
  stays_right s right = finish_right right.births none s.state s right.state_right right.hand_open tt right.marks_flat

  after_line_right : (ρ : Room) (o : Out) (n : ℕ) (s : Session) (next : Session → Run) (right : Right s) → Good right.births OpenValue o
      → ((s' : Session) → Right s' → Right (next s').session) → Right (after_line o n s next).session
  after_line_right ρ (gave v σ) n s next right good f = f (finish none s.state s) (stays_right s right)
  after_line_right ρ (ended v σ) n s next right good f =
      f (finish (value v) σ s)
      (finish_right good.0 (value v) σ s good.2
      (hand_kept right.births good.0 good.1 (outcomes_of s.finished) right.hand_open) good.3 right.marks_flat)
  after_line_right ρ (stopped σ) n s next right good f = f (finish none s.state s) (stays_right s right)
  after_line_right ρ (full m σ) n s next right good f = right

  run_right : (ρ : Room) (cs : List Command) (ls : List Line) (n : ℕ) (s : Session) → All (SoundCommand p) cs → Right s
      → Right (run_from ρ cs ls n s).session
  unfolding run_from
  run_right ρ cs [] n s sound right = right
  run_right ρ cs (l ∷ ls) n s sound right =
      after_line_right ρ (run_line ρ cs s.finished l s.state) n s (λ s'. run_from ρ cs ls (suc n) s') right
      (line_good right.births ρ cs s.finished l s.state sound right.state_right right.hand_open)
      (λ s' right'. run_right ρ cs ls (suc n) s' sound right')

  start_right : Right start
  start_right = record {
    births = λ n. None;
    state_right = record { unmade = λ n l. refl; keys = tt; guards = tt };
    hand_open = tt;
    marks_flat = tt;
  }

module _ (p : Policy) (cs : List Command) (lw : Lawful p) (accepted : (verdict p cs).number ≡ 0) where
  session_right : (ρ : Room) (ls : List Line) → Right p lw (run ρ cs ls).session
  session_right ρ ls = run_right p lw ρ cs ls 0 start (all_sound p 1 cs (no_refusal (findings p 1 cs) accepted)) (start_right p lw)

  -- Demand 3. In every room, a limited one or one without limits, no line of any session has a breach mark.
  pub accepted_is_flat : (ρ : Room) (ls : List Line) → All Flat (run ρ cs ls).session.finished
  accepted_is_flat ρ ls = (session_right ρ ls).marks_flat

  -- What source 002 asks of derived keys: after any session, what is derived from a guarded value, under any label, is not in hand.
  pub derived_stay_secret : (ρ : Room) (ls : List Line) (l : ℕ)
      → All (λ g. T (not (in_hand (outcomes_of (run ρ cs ls).session.finished) (div l g)))) (run ρ cs ls).session.state.world.guarded
  derived_stay_secret ρ ls l =
      let right : Right p lw (run ρ cs ls).session = session_right ρ ls in
      let Θ = right.births in
      let os = outcomes_of (run ρ cs ls).session.finished in
      all_map (GuardOk p lw Θ) (λ g. T (not (in_hand os (div l g)))) (λ g ok. derived_not_in_hand p lw Θ os l g right.hand_open ok)
      (run ρ cs ls).session.state.world.guarded right.state_right.guards
