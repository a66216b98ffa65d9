-- Further cases, computed like the marked ones: each read refusal, verdict number and run ending, what a stop undoes, when a value is guarded, and derived keys.
-- Assumes nothing.
use Prim.Native.String.{String}
use mathlib.Core.Path.{refl}
use mathlib.Core.List.{List, [], ◌∷◌}
use Rattle.model.specs.Token.{Limit, Room, at_most, unlimited}
use Rattle.model.proofs.Marked.{Case, judged, answered, ended, AllHold, opened, bytes, text, verdict_is}

-- ---- reading

-- the policy that allows templates 13 and 51, with r Data
abbrev some_policy : String
some_policy = "01020008000000002000"

abbrev pub readings : List Case
readings =
    answered [] ("80030000" ∷ [])
    ∷ answered (bytes "01020008000000002000") ("80020000" ∷ [])
    ∷ answered (text ("" ∷ [])) ("80020000" ∷ [])
    ∷ answered (text ("0102000800000000200" ∷ [])) ("80020000" ∷ [])
    ∷ answered (text ("010200080000000020AA" ∷ [])) ("80020000" ∷ [])
    -- a second policy; an unknown kind; a command after a session line
    ∷ answered (text (some_policy ∷ some_policy ∷ [])) ("80030001" ∷ [])
    ∷ answered (text (some_policy ∷ "04" ∷ [])) ("80030001" ∷ [])
    ∷ answered (text (some_policy ∷ "0301000280018002" ∷ "02000100000000" ∷ [])) ("80030002" ∷ [])
    -- a step that names no value yet; the same with an op that is not there in a later step: the lower number wins
    ∷ answered (text (some_policy ∷ "0200020405050000000000" ∷ [])) ("80060001" ∷ [])
    ∷ answered (text (some_policy ∷ "0200020405050009000000" ∷ [])) ("80040001" ∷ [])
    -- a count of 17 steps; a return that is not last; a field that the op doesn't use
    ∷ answered (text (some_policy ∷ "020011" ∷ [])) ("80040001" ∷ [])
    ∷ answered (text (some_policy ∷ "0201020000000000000000" ∷ [])) ("80040001" ∷ [])
    ∷ answered (text (some_policy ∷ "02010100000100" ∷ [])) ("80040001" ∷ [])
    -- a line that names itself; a call of a command that isn't there; one with another count of arguments
    ∷ answered (text (some_policy ∷ "0301000200008001" ∷ [])) ("80060001" ∷ [])
    ∷ answered (text (some_policy ∷ "03000000" ∷ [])) ("80060001" ∷ [])
    ∷ answered (text (some_policy ∷ "02010100000000" ∷ "03000000" ∷ [])) ("80060002" ∷ [])
    -- A without S, before what is wrong in a later frame; with r out of range
    ∷ answered (text ("01000000000000000004" ∷ "zz" ∷ [])) ("80070000" ∷ [])
    ∷ answered (text ("01060000000000000004" ∷ [])) ("80040000" ∷ [])
    ∷ []

pub readings_hold : AllHold readings
unfolding opened
readings_hold = (refl, (refl, (refl, (refl, (refl, (refl, (refl, (refl, (refl, (refl, (refl, (refl, (refl, (refl, (refl, (refl, (refl, (refl, tt))))))))))))))))))

-- ---- the verdict

abbrev pub verdicts : List Case
verdicts =
    judged (some_policy ∷ "0200020200000c00000000" ∷ []) (verdict_is 16 1 0)
    ∷ judged (some_policy ∷ "0201020100001400000000" ∷ []) (verdict_is 17 1 0)
    ∷ judged (some_policy ∷ "020103010000010500010000000000" ∷ []) (verdict_is 19 1 1)
    ∷ judged (some_policy ∷ "020103010000040301003300000000" ∷ []) (verdict_is 20 1 1)
    ∷ judged (some_policy ∷ "0201020100000400010000" ∷ []) (verdict_is 21 1 1)
    -- 22 before 17, 16 before 20
    ∷ judged (some_policy ∷ "020103010000040101001400000000" ∷ []) (verdict_is 22 1 1)
    ∷ judged (some_policy ∷ "020103010000040301000c00000000" ∷ []) (verdict_is 16 1 1)
    -- a data key carries what is Un, and no key
    ∷ judged (some_policy ∷ "020103010000040400010000020000" ∷ []) (verdict_is 0 0 0)
    ∷ judged (some_policy ∷ "020103010000040401010000020000" ∷ []) (verdict_is 18 1 1)
    -- what a wrapping key unwraps is of type r, which is Data here: it is not returned, and it is stored under 13
    ∷ judged (some_policy ∷ "020203010100100500020000030000" ∷ []) (verdict_is 21 1 2)
    ∷ judged (some_policy ∷ "02020401010010050002000303000d00040000" ∷ []) (verdict_is 0 0 0)
    ∷ []

pub verdicts_hold : AllHold verdicts
unfolding opened
verdicts_hold = (refl, (refl, (refl, (refl, (refl, (refl, (refl, (refl, (refl, (refl, (refl, tt)))))))))))

-- ---- the run

abbrev pub runs : List Case
runs =
    -- a call that stores a key and then stops; a computing line; a line that names the stopped one
    answered (text (some_policy ∷ "0200030200000d0100001000000000" ∷ "03000000" ∷ "0301000280018002" ∷ "0301000200008001" ∷ []))
    ("8100000000" ∷ "82000001ffff000000" ∷ "820001000002000000" ∷ "82000201ffff000000" ∷ "8300ffff" ∷ [])
    -- an imported key under S alone is not guarded; under S and A it is, and it was in hand
    ∷ answered (text ("01000000000000000002" ∷ "0201020300000100010000" ∷ "030000018005" ∷ []))
    ("8100000000" ∷ "820000000001000100" ∷ "8300ffff" ∷ [])
    ∷ answered (text ("01000000000000000008" ∷ "0201020300000300010000" ∷ "030000018005" ∷ []))
    ("8114000100" ∷ "820000000001000101" ∷ "83000000" ∷ [])
    -- decryption under a wrong key is a value, and under the right one what was encrypted
    ∷ answered (text (some_policy ∷ "0301000280058007" ∷ "0302000200008008" ∷ "0302000200008007" ∷ []))
    ("8100000000" ∷ "820000000002000000" ∷ "820001000004000000" ∷ "820002000000000000" ∷ "8300ffff" ∷ [])
    ∷ []

pub runs_hold : AllHold runs
unfolding opened
runs_hold = (refl, (refl, (refl, (refl, tt))))

-- ---- derived keys

-- the policy that allows data keys (7), wrapping keys (19) and seeds (23), all always sensitive, with r Data; and commands that generate
-- a seed, derive a data key from it, and derive a wrapping key from it
abbrev seeds : List String → List String
seeds rest =
    "01020000000000880080"
    ∷ "0200020200001700000000"
    ∷ "02010401000017060001000302000700030000"
    ∷ "02010401000017060001010302001300030000"
    ∷ rest

abbrev pub derivations : List Case
derivations =
    -- the same label and value have one row, and another label another; the attacker derives from what is held
    answered (text (seeds ("03000000" ∷ "030001010000" ∷ "030002010000" ∷ "030001010000" ∷ "030300018005" ∷ "030301018005" ∷ "030300018005" ∷ [])))
    ("8100000000"
    ∷ "820000000000000100"
    ∷ "820001000003000200"
    ∷ "820002000005000300"
    ∷ "820003000006000400"
    ∷ "820004000008000400"
    ∷ "820005000009000400"
    ∷ "820006000008000400"
    ∷ "8300ffff"
    ∷ [])
    -- a derived data key is not returned; a derived wrapping key is not stored as a data key
    ∷ judged (seeds ("020103010000170600010000020000" ∷ [])) (verdict_is 21 4 2)
    ∷ judged (seeds ("02010401000017060001010302000700030000" ∷ [])) (verdict_is 20 4 2)
    -- from what is public comes what is public, under each label
    ∷ judged (some_policy ∷ "0201020600000000010000" ∷ []) (verdict_is 0 0 0)
    ∷ judged (some_policy ∷ "0201020600000100010000" ∷ []) (verdict_is 0 0 0)
    -- from a key of another type nothing: Data, Wrap, TData, and Any, the join of a trusted data key and a seed
    ∷ judged (some_policy ∷ "020103010000040600010000000000" ∷ []) (verdict_is 23 1 1)
    ∷ judged (some_policy ∷ "020103010000100600010000000000" ∷ []) (verdict_is 23 1 1)
    ∷ judged ("01020000000000000080" ∷ "020103010000040600010000000000" ∷ []) (verdict_is 23 1 1)
    ∷ judged (seeds ("020103010000040600010000000000" ∷ [])) (verdict_is 23 4 1)
    -- a label of 2; a field a that is not 0; a value not yet made; an op that is not there; a line with label 2, with two arguments, with
    -- none, of kind 4
    ∷ answered (text (some_policy ∷ "0201020600000200010000" ∷ [])) ("80040001" ∷ [])
    ∷ answered (text (some_policy ∷ "0202020601000000020000" ∷ [])) ("80040001" ∷ [])
    ∷ answered (text (some_policy ∷ "0201020600010000010000" ∷ [])) ("80060001" ∷ [])
    ∷ answered (text (some_policy ∷ "0201020700000000010000" ∷ [])) ("80040001" ∷ [])
    ∷ answered (text (some_policy ∷ "030302018005" ∷ [])) ("80040001" ∷ [])
    ∷ answered (text (some_policy ∷ "0303000280058006" ∷ [])) ("80040001" ∷ [])
    ∷ answered (text (some_policy ∷ "03030000" ∷ [])) ("80040001" ∷ [])
    ∷ answered (text (some_policy ∷ "030400018005" ∷ [])) ("80040001" ∷ [])
    -- a derived key is not guarded until it is kept under A; it was in hand then
    ∷ answered (text (seeds ("020103010000170600010000020000" ∷ "03000000" ∷ "030003010000" ∷ "030001010000" ∷ [])))
    ("8115000402" ∷ "820000000000000100" ∷ "820001000002000100" ∷ "820002000003000201" ∷ "83000002" ∷ [])
    -- a key derived from an imported seed: the attacker derives it too
    ∷ answered
    (text ("01020000000000200080" ∷ "0201020300001500010000" ∷ "02010401000015060001000302000700030000" ∷ "030000018005" ∷ "030001010000" ∷ "030300018005" ∷ []))
    ("8117000201" ∷ "820000000001000100" ∷ "820001000003000200" ∷ "820002000002000201" ∷ "83000002" ∷ [])
    ∷ []

pub derivations_hold : AllHold derivations
unfolding opened
derivations_hold = (refl, (refl, (refl, (refl, (refl, (refl, (refl, (refl, (refl, (refl, (refl, (refl, (refl, (refl, (refl, (refl, (refl, (refl, (refl, tt)))))))))))))))))))

-- ---- where there is no room

abbrev room : Limit → Limit → Room
room rows keys = record { rows = rows; keys = keys }

-- a command that generates, one that stores its parameter, and calls of them
abbrev filling : List String → List String
filling calls = some_policy ∷ "0200020200000d00000000" ∷ "0201020300000d00010000" ∷ calls

abbrev pub endings : List Case
endings =
    ended (room unlimited unlimited) (filling ("03000000" ∷ "03000000" ∷ [])) 0 0
    ∷ ended (room (at_most 4) (at_most 2)) (filling ("03000000" ∷ "03000000" ∷ [])) 0 0
    ∷ ended (room (at_most 3) (at_most 2)) (filling ("03000000" ∷ "03000000" ∷ [])) 32 1
    ∷ ended (room (at_most 4) (at_most 1)) (filling ("03000000" ∷ "03000000" ∷ [])) 33 1
    -- at a storing step 33 comes before 32, and a line's arguments come before its steps
    ∷ ended (room (at_most 0) (at_most 0)) (filling ("03000000" ∷ [])) 33 0
    ∷ ended (room (at_most 1) (at_most 0)) (filling ("030001018005" ∷ [])) 33 0
    ∷ ended (room (at_most 0) (at_most 0)) (filling ("030001018005" ∷ [])) 32 0
    ∷ []

pub endings_hold : AllHold endings
unfolding opened
endings_hold = ((refl, refl), ((refl, refl), ((refl, refl), ((refl, refl), ((refl, refl), ((refl, refl), ((refl, refl), tt)))))))
