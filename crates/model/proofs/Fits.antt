-- The numbers of what is printed fit their bytes: those of verdicts, of endings and of refusals, and no more lines finish than there are.
-- Assumes nothing.
use Prim.Native.Nat.{ℕ, zero, suc, ◌+◌, ◌≤◌, ◌<◌}
use mathlib.Core.Path.{◌≡◌, subst}
use mathlib.Core.Bool.{Bool, true, false, cond, ◌&&◌}
use mathlib.Core.List.{List, [], ◌∷◌, ◌++◌}
use native.Mathlib.Omega.{arith}
use lib.Dec.{T, eqb, ltb, leb, leb→le}
use lib.ListN.{length, length-append, replicate}
use Rattle.model.specs.Basics.{◌else◌then◌, every, All}
use Rattle.model.specs.Types.{type_of}
use Rattle.model.specs.declared.Ty.{Ty}
use Rattle.model.specs.declared.Ty.TheVariants.{Un}
use Rattle.model.specs.Step.{op_of, Command}
use Rattle.model.specs.declared.Operation.TheVariants.{Encrypt, Decrypt, Derive}
use Rattle.model.specs.declared.Op.{Op}
use Rattle.model.specs.declared.Op.TheVariants.{Return, Get, Generate, Store, Compute, Unknown}
use Rattle.model.specs.Policy.{allows, offered, meets, lawful}
use Rattle.model.specs.declared.Policy.{Policy}
use Rattle.model.specs.Typing.{return_ok, handle_ok, store_ok, encrypt_ok, decrypt_ok, derive_ok, refusal, type_at, step_gives, step_findings, findings, or_later, first_refusal, verdict}
use Rattle.model.specs.Value.{Value, present, value_at, compute, operands}
use Rattle.model.specs.Token.{State, Room, Out, gave, ended, stopped, full, and_then, fits, with_row, appear, new_atom, keep, with_place, guards_generated, guards_stored, generate, store, place_of, key_at, get, perform, run_steps, command_at, call}
use Rattle.model.specs.Session.{Arg, Line, calls, computes, Outcome, value, none, Finished, Session, start, argument, appearing, with_arguments, run_line, finished_as, finish, Run, after_line, run_from, run}
use Rattle.model.specs.Text.{TextLine, newline, on_first, lines_of, well_written, bytes_of}
use Rattle.model.specs.Frame.{File, Reading, nothing_read, Kind, policy_kind, command_kind, line_kind, other_kind, kind_of, byte_at, policy_formed, policy_of, command_of, command_formed, names_made, line_of, line_formed, line_names, in_place, body_refusal, frame_refusal}
use Rattle.model.specs.File.{Parsed, refused, file, line_refusal, after_frame, unless_refused, parse_from, parse}
use Rattle.model.specs.Tables.{command_read}
use Rattle.model.specs.declared.Step.{Step}
use Rattle.model.specs.Typing.{Verdict}
use Rattle.model.proofs.Tests.{and_left, and_right}

else_fits : (b : Bool) (n rest : ℕ) → n < 256 → rest < 256 → (b else n then rest) < 256
else_fits true n rest h k = k
else_fits false n rest h k = h

-- ---- the verdict

pub record VerdictSmall (v : Verdict) : Type 0 where
  pub number_fits : v.number < 256
  pub frame_fits : v.frame < 65536
  pub step_fits : v.step < 256

step_refusal_fits : (p : Policy) (o : Op) (s : Step) (x y : Ty) → refusal p o s x y < 256
step_refusal_fits p Return s x y = else_fits (return_ok x) 21 0 (omega arith) (omega arith)
step_refusal_fits p Get s x y =
    let some_offered : Bool = ltb 0 (length (offered p.allowing s)) in
    else_fits (handle_ok x) 22 (some_offered else 17 then 0) (omega arith) (else_fits some_offered 17 0 (omega arith) (omega arith))
step_refusal_fits p Generate s x y = else_fits (allows p.allowing s.t) 16 0 (omega arith) (omega arith)
step_refusal_fits p Store s x y =
    let storable : Bool = store_ok x (type_of s.t) in
    else_fits (allows p.allowing s.t) 16 (storable else 20 then 0) (omega arith)
    (else_fits storable 20 0 (omega arith) (omega arith))
step_refusal_fits p (Compute Encrypt) s x y = else_fits (encrypt_ok p.transported x y) 18 0 (omega arith) (omega arith)
step_refusal_fits p (Compute Decrypt) s x y = else_fits (decrypt_ok x y) 19 0 (omega arith) (omega arith)
step_refusal_fits p (Compute (Derive l)) s x y = else_fits (derive_ok y) 23 0 (omega arith) (omega arith)
step_refusal_fits p Unknown s x y = omega arith

all_joined : {A : Type 0} (P : A → Type 0) (xs ys : List A) → All P xs → All P ys → All P (xs ++ ys)
all_joined P [] ys h k = k
all_joined P (x ∷ xs) ys h k = (h.0, all_joined P xs ys h.1 k)

step_findings_fit : (p : Policy) (f i : ℕ) (g : List Ty) (ss : List Step) → f < 65536 → i + length ss ≤ 256
    → All VerdictSmall (step_findings p f i g ss)
unfolding step_findings
step_findings_fit p f i g [] h k = tt
step_findings_fit p f i g (s ∷ ss) h k = (
  record {
    number_fits = step_refusal_fits p (op_of s) s (type_at g s.a) (type_at g s.b);
    frame_fits = h;
    step_fits = omega arith;
  },
  step_findings_fit p f (suc i) (g ++ step_gives p g s ∷ []) ss h (omega arith),
)

few_steps : (c : Command) → T (command_read c) → length c.steps ≤ 16
few_steps c h = leb→le (length c.steps) 16 (search (and_left, and_right))

findings_fit : (p : Policy) (f : ℕ) (cs : List Command) → f + length cs ≤ 65536 → T (every command_read cs)
    → All VerdictSmall (findings p f cs)
unfolding findings
findings_fit p f [] l h = tt
findings_fit p f (c ∷ cs) l h =
    let sixteen = few_steps c (and_left (command_read c) (every command_read cs) h) in
    let types = replicate c.params Un in
    all_joined VerdictSmall (step_findings p f 0 types c.steps) (findings p (suc f) cs)
    (step_findings_fit p f 0 types c.steps (omega arith) (omega arith))
    (findings_fit p (suc f) cs (omega arith) (and_right (command_read c) (every command_read cs) h))

first_refusal_fits : (vs : List Verdict) → All VerdictSmall vs → VerdictSmall (first_refusal vs)
unfolding first_refusal
first_refusal_fits [] h = record { number_fits = omega arith; frame_fits = omega arith; step_fits = omega arith }
first_refusal_fits (v ∷ vs) h = go v.number (first_refusal_fits vs h.1)
  where
    go : (n : ℕ) → VerdictSmall (first_refusal vs) → VerdictSmall (or_later n v (first_refusal vs))
    go zero later = later
    go (suc n) later = h.0

-- of commands that were read: at most 32 of them, with at most 16 steps each
pub verdict_fits : (p : Policy) (cs : List Command) → length cs ≤ 32 → T (every command_read cs) → VerdictSmall (verdict p cs)
verdict_fits p cs few h = first_refusal_fits (findings p 1 cs) (findings_fit p 1 cs (omega arith) h)

-- ---- the run

-- an ending, where it is one, fits a byte
abbrev EndingSmall : Out → Type 0
EndingSmall (gave v σ) = Unit {0}
EndingSmall (ended v σ) = Unit {0}
EndingSmall (stopped σ) = Unit {0}
EndingSmall (full n σ) = n < 256

if_fits : (b : Bool) (o q : Out) → EndingSmall o → EndingSmall q → EndingSmall (cond b o q)
if_fits true o q h k = h
if_fits false o q h k = k

then_fits : (o : Out) (next : Value → State → Out) → EndingSmall o → ((v : Value) (σ : State) → EndingSmall (next v σ))
    → EndingSmall (and_then o next)
then_fits (gave v σ) next h f = f v σ
then_fits (ended v σ) next h f = tt
then_fits (stopped σ) next h f = tt
then_fits (full n σ) next h f = h

-- a run's ending fits a byte, and at most n lines finished
record RunSmall (r : Run) (n : ℕ) : Type 0 where
  small_ending : r.ending < 256
  few_finished : length r.session.finished ≤ n

after_line_fits : (o : Out) (i m : ℕ) (s : Session) (next : Session → Run) → EndingSmall o
    → ((s' : Session) → length s'.finished ≡ suc (length s.finished) → RunSmall (next s') (length s.finished + suc m))
    → RunSmall (after_line o i s next) (length s.finished + suc m)
after_line_fits o i m s next h f = go o h
  where
    one_more : (o : Outcome) (σ : State) → length (finish o σ s).finished ≡ suc (length s.finished)
    one_more o σ = omega (arith, length-append s.finished (finished_as o σ s.finished ∷ []))

    go : (o : Out) → EndingSmall o → RunSmall (after_line o i s next) (length s.finished + suc m)
    go (gave v σ) h = f (finish none s.state s) (one_more none s.state)
    go (ended v σ) h = f (finish (value v) σ s) (one_more (value v) σ)
    go (stopped σ) h = f (finish none s.state s) (one_more none s.state)
    go (full n σ) h = record { small_ending = h; few_finished = omega arith }

module _ (ρ : Room) where
  appear_fits : (v : Value) (σ : State) → EndingSmall (appear ρ v σ)
  unfolding appear
  appear_fits v σ =
      let more : Out = gave v (record { world = with_row v σ.world; token = σ.token }) in
      if_fits (present v σ.world.rows) (gave v σ) (cond (fits ρ.rows (length σ.world.rows)) more (full 32 σ)) tt
      (if_fits (fits ρ.rows (length σ.world.rows)) more (full 32 σ) tt (omega arith))

  place_fits : (σ : State) (stores : Out) → EndingSmall stores → EndingSmall (with_place ρ σ stores)
  place_fits σ stores h = if_fits (fits ρ.keys (length σ.token.stored)) stores (full 33 σ) h (omega arith)

  generate_fits : (t : ℕ) (σ : State) → EndingSmall (generate ρ t σ)
  unfolding generate
  generate_fits t σ =
      let keyed : Value → Value → State → Out = λ h k σ₂. keep (guards_generated t) h k t σ₂ in
      let handled : Value → State → Out = λ h σ₁. and_then (new_atom ρ σ₁) (keyed h) in
      place_fits σ (and_then (new_atom ρ σ) handled)
      (then_fits (new_atom ρ σ) handled (appear_fits _ _) (λ h σ₁. then_fits (new_atom ρ σ₁) (keyed h) (appear_fits _ _) (λ k σ₂. tt)))

  store_fits : (v : Value) (t : ℕ) (σ : State) → EndingSmall (store ρ v t σ)
  unfolding store
  store_fits v t σ =
      let handled : Value → State → Out = λ h σ₁. keep (guards_stored t) h v t σ₁ in
      place_fits σ (and_then (new_atom ρ σ) handled) (then_fits (new_atom ρ σ) handled (appear_fits _ _) (λ h σ₁. tt))

  get_fits : (s : Step) (h : Value) (σ : State) → EndingSmall (get ρ s h σ)
  unfolding get
  get_fits s h σ =
      let ks = σ.token.stored in
      if_fits (ltb (place_of h ks) (length ks) && meets s (key_at ks (place_of h ks)).template)
      (appear ρ (key_at ks (place_of h ks)).key σ) (stopped σ) (appear_fits _ _) tt

  perform_fits : (o : Op) (s : Step) (v w : Value) (σ : State) → EndingSmall (perform ρ o s v w σ)
  perform_fits Return s v w σ = tt
  perform_fits Get s v w σ = get_fits s v σ
  perform_fits Generate s v w σ = generate_fits s.t σ
  perform_fits Store s v w σ = store_fits v s.t σ
  perform_fits (Compute o) s v w σ = appear_fits (compute o (operands o v w)) σ
  perform_fits Unknown s v w σ = tt

  steps_fit : (ss : List Step) (vs : List Value) (σ : State) → EndingSmall (run_steps ρ ss vs σ)
  unfolding run_steps
  steps_fit [] vs σ = tt
  steps_fit (s ∷ ss) vs σ =
      then_fits (perform ρ (op_of s) s (value_at vs s.a) (value_at vs s.b) σ) (λ v σ'. run_steps ρ ss (vs ++ v ∷ []) σ')
      (perform_fits (op_of s) s (value_at vs s.a) (value_at vs s.b) σ) (λ v σ'. steps_fit ss (vs ++ v ∷ []) σ')

  call_fits : (cs : List Command) (c : ℕ) (vs : List Value) (σ : State) → EndingSmall (call ρ cs c vs σ)
  call_fits cs c vs σ =
      if_fits (eqb (length vs) (command_at cs c).params) (run_steps ρ (command_at cs c).steps vs σ) (stopped σ)
      (steps_fit (command_at cs c).steps vs σ) tt

  appearing_fits : (o : Outcome) (σ : State) → EndingSmall (appearing ρ o σ)
  appearing_fits (value v) σ = appear_fits v σ
  appearing_fits none σ = tt

  arguments_fit : (fs : List Finished) (args : List Arg) (vs : List Value) (σ : State) (next : List Value → State → Out)
      → ((ws : List Value) (σ' : State) → EndingSmall (next ws σ')) → EndingSmall (with_arguments ρ fs args vs σ next)
  unfolding with_arguments
  arguments_fit fs [] vs σ next f = f vs σ
  arguments_fit fs (a ∷ rest) vs σ next f =
      then_fits (appearing ρ (argument fs a) σ) (λ v σ'. with_arguments ρ fs rest (vs ++ v ∷ []) σ' next)
      (appearing_fits (argument fs a) σ) (λ v σ'. arguments_fit fs rest (vs ++ v ∷ []) σ' next f)

  line_fits : (cs : List Command) (fs : List Finished) (l : Line) (σ : State) → EndingSmall (run_line ρ cs fs l σ)
  line_fits cs fs (calls c args) σ = arguments_fit fs args [] σ (λ vs σ'. call ρ cs c vs σ') (λ vs σ'. call_fits cs c vs σ')
  line_fits cs fs (computes o args) σ =
      arguments_fit fs args [] σ (λ vs σ'. and_then (appear ρ (compute o vs) σ') (λ v σ''. ended v σ''))
      (λ vs σ'. then_fits (appear ρ (compute o vs) σ') (λ v σ''. ended v σ'') (appear_fits (compute o vs) σ') (λ v σ''. tt))

  run_fits : (cs : List Command) (ls : List Line) (i : ℕ) (s : Session)
      → RunSmall (run_from ρ cs ls i s) (length s.finished + length ls)
  unfolding run_from
  run_fits cs [] i s = record { small_ending = omega arith; few_finished = omega arith }
  run_fits cs (l ∷ ls) i s =
      after_line_fits (run_line ρ cs s.finished l s.state) i (length ls) s (λ s'. run_from ρ cs ls (suc i) s')
      (line_fits cs s.finished l s.state) (λ s' e.
      let later = run_fits cs ls (suc i) s' in
      let few = later.few_finished in
      record { small_ending = later.small_ending; few_finished = omega arith })

-- endings are 0, 32 and 33
pub ending_fits : (ρ : Room) (cs : List Command) (ls : List Line) → (run ρ cs ls).ending < 256
ending_fits ρ cs ls = (run_fits ρ cs ls 0 start).small_ending

-- as many lines finish as there are, at most
pub finished_few : (ρ : Room) (cs : List Command) (ls : List Line) → length (run ρ cs ls).session.finished ≤ length ls
finished_few ρ cs ls = let few = (run_fits ρ cs ls 0 start).few_finished in omega arith

-- ---- the refusal

lines_few : (input : List ℕ) → length (lines_of input) ≤ length input
unfolding lines_of
lines_few [] = omega arith
lines_few (x ∷ s) = let few = lines_few s in go (eqb x newline) (on_the_first (lines_of s) few) few
  where
    on_the_first : (ls : List TextLine) → length ls ≤ length s → length (on_first x ls) ≤ suc (length s)
    on_the_first [] few = omega arith
    on_the_first (l ∷ ls) few = omega arith

    go : (b : Bool) → length (on_first x (lines_of s)) ≤ suc (length s) → length (lines_of s) ≤ length s
        → length (cond b (record { body = []; ended = true } ∷ lines_of s) (on_first x (lines_of s))) ≤ suc (length s)
    go true joined few = omega arith
    go false joined few = joined

body_refusal_fits : (φ : File) (k : Kind) (f : List ℕ) → body_refusal φ k f < 256
body_refusal_fits φ policy_kind f =
    let good : Bool = lawful (policy_of f) in
    else_fits (policy_formed f) 4 (good else 7 then 0) (omega arith) (else_fits good 7 0 (omega arith) (omega arith))
body_refusal_fits φ command_kind f =
    let room : Bool = ltb (length φ.commands) 32 in
    let named : Bool = names_made (byte_at f 1) (command_of f).steps in
    else_fits (command_formed f) 4 (room else 5 then named else 6 then 0) (omega arith)
    (else_fits room 5 (named else 6 then 0) (omega arith) (else_fits named 6 0 (omega arith) (omega arith)))
body_refusal_fits φ line_kind f =
    let room : Bool = ltb (length φ.lines) 1024 in
    let named : Bool = line_names φ.commands (length φ.lines) (line_of f) in
    else_fits (line_formed f) 4 (room else 5 then named else 6 then 0) (omega arith)
    (else_fits room 5 (named else 6 then 0) (omega arith) (else_fits named 6 0 (omega arith) (omega arith)))
body_refusal_fits φ other_kind f = omega arith

line_refusal_fits : (c : Reading) (l : TextLine) → line_refusal c l < 256
line_refusal_fits c l =
    let f = bytes_of l.body in
    else_fits (well_written l) 2 (frame_refusal c f) (omega arith)
    (else_fits (in_place c.place (kind_of f)) 3 (body_refusal c.file (kind_of f) f) (omega arith)
    (body_refusal_fits c.file (kind_of f) f))

abbrev RefusalSmall : Parsed → Type 0
RefusalSmall (refused n k) = (n < 256) × (k < 65536)
RefusalSmall (file φ) = Unit {0}

refusal_fits_from : (ls : List TextLine) (k : ℕ) (c : Reading) → k + length ls ≤ 65536 → RefusalSmall (parse_from ls k c)
unfolding parse_from
refusal_fits_from [] k c h = go (eqb c.place 0)
  where
    go : (b : Bool) → RefusalSmall (cond b (refused 3 0) (file c.file))
    go true = (omega arith, omega arith)
    go false = tt
refusal_fits_from (l ∷ ls) k c h =
    go (line_refusal c l) (line_refusal_fits c l) (refusal_fits_from ls (suc k) (after_frame c (bytes_of l.body)) (omega arith))
  where
    go : (n : ℕ) → n < 256 → RefusalSmall (parse_from ls (suc k) (after_frame c (bytes_of l.body)))
        → RefusalSmall (unless_refused n k (parse_from ls (suc k) (after_frame c (bytes_of l.body))))
    go zero small later = later
    go (suc n) small later = (small, omega arith)

-- a refusal's number, and its place in an input of at most 32768 bytes
pub refusal_fits : (input : List ℕ) (n k : ℕ) → parse input ≡ refused n k → (n < 256) × (k < 65536)
unfolding parse
refusal_fits input n k e = subst RefusalSmall e (go (leb (length input) 32768) (λ t. leb→le (length input) 32768 t))
  where
    go : (b : Bool) → (T b → length input ≤ 32768) → RefusalSmall (cond b (parse_from (lines_of input) 0 nothing_read) (refused 1 0))
    go true f = let short = f tt in let few = lines_few input in refusal_fits_from (lines_of input) 0 nothing_read (omega arith)
    go false f = (omega arith, omega arith)
