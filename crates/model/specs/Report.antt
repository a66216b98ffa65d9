-- What the program prints for an input, as bytes: the scope's section "Points that the drawing relies on".
use Rattle.std.specs.Prelude.{ℕ, suc, cond, List, [], ◌∷◌, ◌++◌, ltb, length}
use Rattle.model.specs.Basics.{index_by}
use Rattle.model.specs.Typing.{verdict}
use Rattle.model.specs.Token.{Room, at_most}
use Rattle.model.specs.Session.{Outcome, value, none, Finished, Run, run}
use Rattle.model.specs.Text.{two_bytes, written}
use Rattle.model.specs.Frame.{File}
use Rattle.model.specs.File.{Parsed, refused, file, parse}
use Rattle.model.specs.Typing.{Verdict}

-- the room that the program has
abbrev pub program_room : Room
program_room = record { rows = at_most 4096; keys = at_most 256 }

abbrev pub run_of : File → Run
run_of φ = run program_room φ.commands φ.lines

abbrev pub refusal_frame : ℕ → ℕ → List ℕ
refusal_frame n k = 0x80 ∷ n ∷ two_bytes k

abbrev pub verdict_frame : Verdict → List ℕ
verdict_frame v = 0x81 ∷ v.number ∷ two_bytes v.frame ++ v.step ∷ []

abbrev pub stopped_byte : Outcome → ℕ
stopped_byte (value v) = 0
stopped_byte none = 1

abbrev pub line_frame : ℕ → Finished → List ℕ
line_frame i f =
    0x82 ∷ two_bytes i ++ stopped_byte f.outcome ∷ two_bytes f.row ++ two_bytes f.keys ++ cond f.breach 1 0 ∷ []

-- the first line with a breach mark, or ffff
abbrev pub first_breach : List Finished → ℕ
first_breach fs = let i = index_by (λ f. f.breach) fs in cond (ltb i (length fs)) i 0xffff

abbrev pub end_frame : Run → List ℕ
end_frame r = 0x83 ∷ r.ending ∷ two_bytes (first_breach r.session.finished)

-- the frames of the finished lines from line i on
unfoldable pub line_frames : ℕ → List Finished → List ℕ
line_frames i [] = []
line_frames i (f ∷ fs) = written (line_frame i f) ++ line_frames (suc i) fs

unfoldable pub answer_to : Parsed → List ℕ
answer_to (refused n k) = written (refusal_frame n k)
answer_to (file φ) =
    written (verdict_frame (verdict φ.policy φ.commands))
    ++ line_frames 0 (run_of φ).session.finished
    ++ written (end_frame (run_of φ))

-- the program's whole output for an input
abbrev pub answer : List ℕ → List ℕ
answer input = answer_to (parse input)
