-- Laws of the tables: an entry more is a thing more that they hold, and a command's entry tells its parameters.
-- Assumes nothing.
use mathlib.Core.Path.{◌≡◌, refl, sym, ◌∙◌}
use mathlib.Core.List.{List, [], ◌∷◌, ◌++◌, map, map-append, append_assoc, append-nil}
use Prim.Native.Nat.{ℕ, suc, ◌+◌, ◌-◌, ◌*◌, ◌%◌, ◌≤◌, ◌<◌}
use native.Mathlib.Omega.{arith}
use lib.ListN.{length, get_or, take, drop, set, replicate, length-append, length-map, get_or-append, get_or-map}
use Rattle.model.specs.Step.{Command}
use Rattle.model.specs.Token.{command_at}
use Rattle.model.specs.Tables.{padded, step_code, command_code, step_codes}
use Rattle.frames.specs.Parts.{filled}
use Rattle.frames.proofs.Lists.{filled_more, filled_length, filled_part}

-- ---- the tables with an entry a thing
pub entry_written : {A : Type 0} (code : A → ℕ) (k n : ℕ) (xs : List A) (x : A) (t : List ℕ) (v : ℕ)
    → t ≡ padded k (map code xs) → n ≡ length xs → n < k → v ≡ code x → set t n v ≡ padded k (map code (xs ++ x ∷ []))
unfolding padded filled
entry_written code k n xs x t v held count room is =
    rw (held, is, map-append code xs (x ∷ [])) (filled_more k 0 (map code xs) (code x) n (length-map xs code ∙ sym count) room)

-- ---- the steps' table, sixteen places a command

own_length : (c : Command) → length c.steps ≤ 16 → length (padded 16 (map step_code c.steps)) ≡ 16
unfolding padded filled
own_length c few = filled_length 16 0 (map step_code c.steps) (omega (arith, length-map c.steps step_code))

codes_length : (cs : List Command) → ((i : ℕ) → length (command_at cs i).steps ≤ 16) → length (step_codes cs) ≡ 16 * length cs
unfolding step_codes
codes_length [] few = refl
codes_length (c ∷ cs) few =
    let later = codes_length cs (λ i. few (suc i)) in
    omega (arith, own_length c (few 0), length-append (padded 16 (map step_code c.steps)) (step_codes cs))

codes_more : (cs : List Command) (c : Command) → step_codes (cs ++ c ∷ []) ≡ step_codes cs ++ padded 16 (map step_code c.steps)
unfolding step_codes
codes_more [] c = append-nil (padded 16 (map step_code c.steps))
codes_more (d ∷ cs) c =
    rw (codes_more cs c) (sym (append_assoc (padded 16 (map step_code d.steps)) (step_codes cs) (padded 16 (map step_code c.steps))))

pub steps_written : (cs : List Command) → ((i : ℕ) → length (command_at cs i).steps ≤ 16) → (c : Command) (n : ℕ) (t ys : List ℕ)
    → t ≡ padded 512 (step_codes cs) → n ≡ length cs → n < 32 → ys ≡ padded 16 (map step_code c.steps) → length c.steps ≤ 16
    → take (16 * n) t ++ ys ++ drop (16 * n + 16) t ≡ padded 512 (step_codes (cs ++ c ∷ []))
unfolding padded filled
steps_written cs few c n t ys held count room are short =
    let first : length (step_codes cs) ≡ 16 * n = omega (arith, codes_length cs few) in
    rw (held, codes_more cs c, are)
    (filled_part 512 0 (step_codes cs) (padded 16 (map step_code c.steps)) (16 * n) 16 first (own_length c short) (omega arith))

-- ---- what a command's entry tells of its parameters
pub params_there : (cs : List Command) (i : ℕ) (t : List ℕ) → ((j : ℕ) → (command_at cs j).params ≤ 4) → t ≡ padded 32 (map command_code cs)
    → i < length cs → get_or t i 0 % 256 ≡ (command_at cs i).params
unfolding padded command_code
params_there cs i t few held there =
    let codes = map command_code cs in
    let within : i < length codes = omega (arith, length-map cs command_code) in
    rw (
      held,
      get_or-append codes (replicate (32 - length codes) 0) 0 i within,
      get_or-map command_code cs i
          (record { params = 0; steps = [] }),
    )
    (omega (arith, few i))
