-- What the inner functions promise: bytes put at a place of the buffer. They know a line by the number that codes its outcome.
use Rattle.std.specs.Prelude.{ℕ, suc, ◌+◌, ◌/◌, ◌%◌, ◌≡◌, List, [], ◌∷◌, ◌++◌, length}
use Rattle.std.proofs.lemmas.List.Edits.{sets}
use Rattle.model.specs.Text.{two_bytes, written}

-- the bytes stand at the place, all else is as it was, and r is the place after them
pub record Put (bytes : List ℕ) (at : ℕ) (before : List ℕ) (r : ℕ) (after : List ℕ) : Type 0 where
  pub next : r ≡ at + length bytes
  pub buffer_is : after ≡ sets before at bytes

-- line i's frame, from the number that codes its outcome
abbrev pub coded_frame : ℕ → ℕ → List ℕ
coded_frame i code =
    0x82 ∷ two_bytes i
    ++ (code / 4294967296 % 2) ∷ two_bytes (code % 65536)
    ++ two_bytes (code / 65536 % 65536)
    ++ (code / 8589934592 % 2) ∷ []

-- the frames of the lines from line i on
unfoldable pub coded_frames : ℕ → List ℕ → List ℕ
coded_frames i [] = []
coded_frames i (code ∷ codes) = written (coded_frame i code) ++ coded_frames (suc i) codes
