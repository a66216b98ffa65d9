-- A whole input: its refusal, with number and frame, or the file that it holds: the scope's section "Numbers of the answers", 1 to 7.
use Rattle.std.specs.Prelude.{ℕ, zero, suc, cond, List, [], ◌∷◌, eqb, leb, length}
use Rattle.model.specs.Basics.{◌else◌then◌}
use Rattle.model.specs.Typing.{verdict}
use Rattle.model.specs.Text.{TextLine, lines_of, well_written, bytes_of}
use Rattle.model.specs.Frame.{File, Reading, nothing_read, kind_of, frame_refusal, with_frame}
use Rattle.model.specs.Typing.{Verdict}

pub data Parsed : Type 0 where
  refused : ℕ → ℕ → Parsed
  file : File → Parsed

-- the lowest number that a line earns, or 0
abbrev pub line_refusal : Reading → TextLine → ℕ
line_refusal c l = well_written l else 2 then frame_refusal c (bytes_of l.body)

abbrev pub after_frame : Reading → List ℕ → Reading
after_frame c f = with_frame c.file (kind_of f) f

-- the refusal n of frame k, or what the rest comes to where n is 0
abbrev pub unless_refused : ℕ → ℕ → Parsed → Parsed
unless_refused zero k rest = rest
unless_refused (suc n) k rest = refused (suc n) k

-- the lines from frame k on; an input with no line at all is refused
unfoldable pub parse_from : List TextLine → ℕ → Reading → Parsed
parse_from [] k c = cond (eqb c.place 0) (refused 3 0) (file c.file)
parse_from (l ∷ ls) k c =
    let rest = parse_from ls (suc k) (after_frame c (bytes_of l.body)) in
    unless_refused (line_refusal c l) k rest

unfoldable pub parse : List ℕ → Parsed
parse input = let whole = parse_from (lines_of input) 0 nothing_read in cond (leb (length input) 32768) whole (refused 1 0)

-- the verdict of an input; a read refusal has step 0
abbrev pub verdict_of : Parsed → Verdict
verdict_of (refused n k) = record { number = n; frame = k; step = 0 }
verdict_of (file φ) = verdict φ.policy φ.commands
