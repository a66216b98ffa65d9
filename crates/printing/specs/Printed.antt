-- What is printed into a lent buffer: the model's bytes, and zeros after them.
use Rattle.std.specs.Prelude.{ℕ, ◌<◌, ◌≡◌, false, List, ◌∷◌, ◌++◌, map, length, get_or}
use Rattle.model.specs.Session.{Finished, none}
use Rattle.model.specs.Text.{two_bytes, written}
use Rattle.model.specs.Report.{verdict_frame, line_frames}
use Rattle.model.specs.Tables.{padded, outcome_code}
use Rattle.model.specs.Typing.{Verdict}

-- the buffer of a length holds these bytes, and r says how many they are
pub record Printed (bytes : List ℕ) (size r : ℕ) (buffer : List ℕ) : Type 0 where
  pub count : r ≡ length bytes
  pub buffer_is : buffer ≡ padded size bytes

-- the verdict's frame and step fit their bytes, as each rule's number does
pub record VerdictFits (v : Verdict) : Type 0 where
  pub frame_fits : v.frame < 65536
  pub step_fits : v.step < 256

-- the finished lines that the outcomes code, with numbers that fit their bytes
pub record Lines (fs : List Finished) (outcomes : List ℕ) : Type 0 where
  pub codes_are : outcomes ≡ map outcome_code fs
  pub rows_fit : (i : ℕ) → i < length fs → (get_or fs i (record { outcome = none; row = 0; keys = 0; breach = false })).row < 65536
  pub keys_fit : (i : ℕ) → i < length fs → (get_or fs i (record { outcome = none; row = 0; keys = 0; breach = false })).keys < 65536

-- the end's frame, from the number of the ending and the first breached line
abbrev pub end_bytes : ℕ → ℕ → List ℕ
end_bytes ending first = 0x83 ∷ ending ∷ two_bytes first

-- the program's output for a file, from its parts
abbrev pub report_bytes : Verdict → List Finished → ℕ → ℕ → List ℕ
report_bytes v fs ending first = written (verdict_frame v) ++ line_frames 0 fs ++ written (end_bytes ending first)
