-- Demand 3 is not empty: configurations that are accepted, with sessions that do useful work; and, for each rule that it needs and a session can
-- show, a configuration that breaks this rule alone and whose session is breached. All are computed.
-- Assumes nothing.
use Prim.Native.Nat.{ℕ}
use Prim.Native.String.{String}
use mathlib.Core.Path.{◌≡◌, refl}
use mathlib.Core.List.{List, [], ◌∷◌, map}
use lib.Dec.{ltb}
use Rattle.model.specs.Basics.{those}
use Rattle.model.specs.Typing.{findings}
use Rattle.model.specs.File.{Parsed, refused, file, parse}
use Rattle.model.specs.Report.{run_of, first_breach}
use Rattle.model.proofs.Marked.{Case, answered, AllHold, opened, text}

-- The key separation of source 002, Example 5 and section 5.6: templates WUSA, ED, EDS and EDSA, r Data. Commands 0 to 5: generate a
-- wrapping key, generate a data key, encrypt, decrypt, wrap, unwrap. Lines 0 to 7: a data key is wrapped out and unwrapped back, and each of
-- its two handles decrypts what the other encrypted. Lines 8 to 11: the wrap-decrypt attack and its kin, to no avail.
abbrev pub key_separation : List String
key_separation =
    "0102000800000000b000"
    ∷ "0200020200003300000000"
    ∷ "0200020200000d00000000"
    ∷ "020203010100040400020000030000"
    ∷ "020203010100080500020000030000"
    ∷ "0202040100000c010100100402030000040000"
    ∷ "02020401010020050002000303000d00040000"
    ∷ "03000000"
    ∷ "03000100"
    ∷ "0300020280010001"
    ∷ "0300040200010000"
    ∷ "0300050200030000"
    ∷ "0300030200020004"
    ∷ "0300020280020004"
    ∷ "0300030200060001"
    ∷ "0300030200030001"
    ∷ "0300050280070000"
    ∷ "0300030200030000"
    ∷ "0302000200038009"
    ∷ []

abbrev pub key_separation_output : List String
key_separation_output =
    "8100000000"
    ∷ "820000000000000100"
    ∷ "820001000002000200"
    ∷ "820002000005000200"
    ∷ "820003000006000200"
    ∷ "820004000007000300"
    ∷ "820005000004000300"
    ∷ "820006000009000300"
    ∷ "820007000008000300"
    ∷ "82000800000a000300"
    ∷ "82000900000d000400"
    ∷ "82000a01ffff000400"
    ∷ "82000b00000f000400"
    ∷ "8300ffff"
    ∷ []

-- The secure templates of source 002, section 4, narrowed so that no key is Any: WUSA, SED and the empty template, r Data. The same commands,
-- with an import of an untrusted value (command 7). Lines 0 to 6 do the useful round; lines 8 and 9 ask keys for roles that they lack, and stop.
abbrev pub secure_templates : List String
secure_templates =
    "01020008000000002001"
    ∷ "0200020200003300000000"
    ∷ "0200020200000d00000000"
    ∷ "0200020200000000000000"
    ∷ "020203010100040400020000030000"
    ∷ "020203010100080500020000030000"
    ∷ "02020401000004010100100402030000040000"
    ∷ "02020401010020050002000303000d00040000"
    ∷ "0201020300000000010000"
    ∷ "03000000"
    ∷ "03000100"
    ∷ "03000200"
    ∷ "0300050200010000"
    ∷ "0300060200030000"
    ∷ "0300030280050004"
    ∷ "0300040200050001"
    ∷ "030007018006"
    ∷ "0300040200050000"
    ∷ "0300050200000000"
    ∷ "0300060200050000"
    ∷ "03000302000a0004"
    ∷ []

abbrev pub secure_templates_output : List String
secure_templates_output =
    "8100000000"
    ∷ "820000000000000100"
    ∷ "820001000002000200"
    ∷ "820002000004000300"
    ∷ "820003000006000300"
    ∷ "820004000007000400"
    ∷ "820005000009000400"
    ∷ "820006000008000400"
    ∷ "82000700000b000500"
    ∷ "82000801ffff000500"
    ∷ "82000901ffff000500"
    ∷ "82000a00000d000600"
    ∷ "82000b00000e000600"
    ∷ "8300ffff"
    ∷ []

-- Sensitive keys that the attacker knows: command 2 imports any value under SED. Lines 1 to 6: a known key encrypts, is wrapped and unwrapped,
-- and is not guarded. Lines 7 to 11: a generated key beside it makes the same round and stays guarded.
abbrev pub imports : List String
imports =
    "01020008000000002000"
    ∷ "0200020200003300000000"
    ∷ "0200020200000d00000000"
    ∷ "0201020300000d00010000"
    ∷ "020203010100040400020000030000"
    ∷ "020203010100080500020000030000"
    ∷ "0202040100000c010100100402030000040000"
    ∷ "02020401010020050002000303000d00040000"
    ∷ "03000000"
    ∷ "030002018005"
    ∷ "0300030280010001"
    ∷ "0302000200028005"
    ∷ "0300050200010000"
    ∷ "0300060200040000"
    ∷ "0300040200020005"
    ∷ "03000100"
    ∷ "0300050200070000"
    ∷ "0300060200080000"
    ∷ "0300030280020009"
    ∷ "03000402000a0007"
    ∷ []

abbrev pub imports_output : List String
imports_output =
    "8100000000"
    ∷ "820000000000000100"
    ∷ "820001000003000200"
    ∷ "820002000005000200"
    ∷ "820003000004000200"
    ∷ "820004000006000200"
    ∷ "820005000007000300"
    ∷ "820006000004000300"
    ∷ "820007000008000400"
    ∷ "82000800000a000400"
    ∷ "82000900000b000500"
    ∷ "82000a00000d000500"
    ∷ "82000b00000c000500"
    ∷ "8300ffff"
    ∷ []

-- Wrapping keys that wrap each other and themselves: r Wrap, and WUSA as the only template. Lines 2 to 4 close the cycles; lines 5 to 8 unwrap
-- and wrap again through them.
abbrev pub key_cycle : List String
key_cycle =
    "01030008000000000000"
    ∷ "0200020200003300000000"
    ∷ "02020401000010010100100402030000040000"
    ∷ "02020401010020050002000303003300040000"
    ∷ "03000000"
    ∷ "03000000"
    ∷ "0300010200000001"
    ∷ "0300010200010000"
    ∷ "0300010200000000"
    ∷ "0300020200020001"
    ∷ "0300020200030005"
    ∷ "0300010200060005"
    ∷ "0300020200070000"
    ∷ "0301000200020003"
    ∷ "0302000200090004"
    ∷ "0300020200040008"
    ∷ []

abbrev pub key_cycle_output : List String
key_cycle_output =
    "8100000000"
    ∷ "820000000000000100"
    ∷ "820001000002000200"
    ∷ "820002000004000200"
    ∷ "820003000005000200"
    ∷ "820004000006000200"
    ∷ "820005000007000300"
    ∷ "820006000008000400"
    ∷ "820007000005000400"
    ∷ "820008000009000500"
    ∷ "82000900000a000500"
    ∷ "82000a00000b000500"
    ∷ "82000b00000d000600"
    ∷ "8300ffff"
    ∷ []

-- The key diversification of source 002, section 4, with its policy: all templates of the types Seed, Any, Data and Un; r Seed. Commands
-- 0 to 4: generate a seed, encrypt and decrypt under its data key, wrap a seed under another one's wrapping key, unwrap. Lines 0 to 6: of
-- two seeds the one is wrapped out under the other and unwrapped back, and decrypts what it had encrypted. Lines 7 to 11: wrap-then-decrypt,
-- unwrapping of data, and the attacker's own derivation, to no avail.
abbrev pub diversification : List String
diversification =
    "0104bbb3bbb3bbb3333b"
    ∷ "0200020200000300000000"
    ∷ "02020401010003060002000400030000040000"
    ∷ "02020401010003060002000500030000040000"
    ∷ "0202050101000301000003060002010403040000050000"
    ∷ "0202050101000306000201050003000304000300050000"
    ∷ "03000000"
    ∷ "03000000"
    ∷ "0300010280050000"
    ∷ "0300020200020000"
    ∷ "0300030200000001"
    ∷ "0300040200040001"
    ∷ "0300020200020005"
    ∷ "0300020200040001"
    ∷ "0300010280060001"
    ∷ "0300040200080001"
    ∷ "030301010004"
    ∷ "030200020004000a"
    ∷ []

abbrev pub diversification_output : List String
diversification_output =
    "8100000000"
    ∷ "820000000000000100"
    ∷ "820001000002000200"
    ∷ "820002000006000200"
    ∷ "820003000004000200"
    ∷ "820004000008000200"
    ∷ "820005000009000300"
    ∷ "820006000004000300"
    ∷ "82000700000b000300"
    ∷ "82000800000d000300"
    ∷ "82000900000f000400"
    ∷ "82000a000010000400"
    ∷ "82000b000011000400"
    ∷ "8300ffff"
    ∷ []

-- A seed diversified into a data key and a wrapping key that are stored: data under the one, the one under the other and back, and the
-- attacker's own derivations from what is held. r is TData.
abbrev pub derived_keys : List String
derived_keys =
    "01010008000000808000"
    ∷ "0200020200001700000000"
    ∷ "02010401000017060001000302000f00030000"
    ∷ "02010401000017060001010302003300030000"
    ∷ "0202030100000f0401020000030000"
    ∷ "0202030100000f0501020000030000"
    ∷ "0202040100000f010100330402030000040000"
    ∷ "02020401010033050002000303000f00040000"
    ∷ "03000000"
    ∷ "030001010000"
    ∷ "030002010000"
    ∷ "0300030200018005"
    ∷ "0300040200010003"
    ∷ "0300050200010002"
    ∷ "0300060200050002"
    ∷ "0300040200060003"
    ∷ "030001010000"
    ∷ "0300030200088006"
    ∷ "030300018005"
    ∷ "030301010005"
    ∷ []

abbrev pub derived_keys_output : List String
derived_keys_output =
    "8100000000"
    ∷ "820000000000000100"
    ∷ "820001000003000200"
    ∷ "820002000005000300"
    ∷ "820003000007000300"
    ∷ "820004000006000300"
    ∷ "820005000008000300"
    ∷ "820006000009000400"
    ∷ "820007000006000400"
    ∷ "82000800000a000500"
    ∷ "82000900000c000500"
    ∷ "82000a00000d000500"
    ∷ "82000b00000e000500"
    ∷ "8300ffff"
    ∷ []

abbrev pub accepted_configurations : List Case
accepted_configurations =
    answered (text key_separation) key_separation_output
    ∷ answered (text secure_templates) secure_templates_output
    ∷ answered (text imports) imports_output
    ∷ answered (text key_cycle) key_cycle_output
    ∷ answered (text diversification) diversification_output
    ∷ answered (text derived_keys) derived_keys_output
    ∷ []

pub accepted_and_flat : AllHold accepted_configurations
unfolding opened
accepted_and_flat = (refl, (refl, (refl, (refl, (refl, (refl, tt))))))

-- ---- teeth

-- the numbers of all the rules that a file's commands break, in order
abbrev pub broken_rules : Parsed → List ℕ
broken_rules (refused n k) = n ∷ []
broken_rules (file φ) = those (λ n. ltb 0 n) (map (λ v. v.number) (findings φ.policy 1 φ.commands))

abbrev pub breached_at : Parsed → ℕ
breached_at (refused n k) = 0xffff
breached_at (file φ) = first_breach (run_of φ).session.finished

-- a rule, a line, and a file that breaks this rule alone and is breached after this line
pub record Tooth : Type 0 where
  pub rule : ℕ
  pub line : ℕ
  pub input : List String

abbrev pub Bites : Tooth → Type 0
Bites t = (broken_rules (parse (text t.input)) ≡ t.rule ∷ []) × (breached_at (parse (text t.input)) ≡ t.line)

abbrev pub AllBite : List Tooth → Type 0
AllBite [] = Unit {0}
AllBite (t ∷ ts) = Bites t × AllBite ts

abbrev pub teeth : List Tooth
teeth =
    -- a sensitive key is generated outside the policy, so that a get of the type Un finds it
    record {
      rule = 16;
      line = 1;
      input =
          "01020000000000010000"
          ∷ "0200020200001100000000"
          ∷ "0201020100001000010000"
          ∷ "03000000"
          ∷ "030001010000"
          ∷ [];
    }
    -- any key is wrapped: a wrapping key comes back as a data key, and decrypts what it wrapped
    ∷ record {
      rule = 18;
      line = 6;
      input =
          "0102000800000000b000"
          ∷ "0200020200003300000000"
          ∷ "0200020200000d00000000"
          ∷ "020203010100080500020000030000"
          ∷ "02020401000000010100100402030000040000"
          ∷ "02020401010020050002000303000d00040000"
          ∷ "03000000"
          ∷ "03000000"
          ∷ "03000100"
          ∷ "0300030200010000"
          ∷ "0300040200030000"
          ∷ "0300030200020001"
          ∷ "0300020200050004"
          ∷ [];
    }
    -- decryption under a key that may be a wrapping key, here a copy of one
    ∷ record {
      rule = 19;
      line = 4;
      input =
          "01020008000002002000"
          ∷ "0200020200003300000000"
          ∷ "0200020200000d00000000"
          ∷ "02020401000004010100330402030000040000"
          ∷ "020103010000330301001900020000"
          ∷ "020203010100080500020000030000"
          ∷ "03000000"
          ∷ "03000100"
          ∷ "0300020200010000"
          ∷ "030003010000"
          ∷ "0300040200020003"
          ∷ [];
    }
    -- a sensitive key is stored under a template that is not
    ∷ record {
      rule = 20;
      line = 2;
      input =
          "01020000000000012000"
          ∷ "0200020200000d00000000"
          ∷ "020103010000080301001000020000"
          ∷ "0201020100001000010000"
          ∷ "03000000"
          ∷ "030001010000"
          ∷ "030002010001"
          ∷ [];
    }
    -- a key is returned
    ∷ record {
      rule = 21;
      line = 1;
      input =
          "01020000000000002000"
          ∷ "0200020200000d00000000"
          ∷ "0201020100000400010000"
          ∷ "03000000"
          ∷ "030001010000"
          ∷ [];
    }
    -- from a key that may be a seed what another command keeps as a data key is derived, and returned
    ∷ record {
      rule = 23;
      line = 2;
      input =
          "01020000000000800080"
          ∷ "0200020200001700000000"
          ∷ "02010401000017060001000302000700030000"
          ∷ "020103010000010600010000020000"
          ∷ "03000000"
          ∷ "030001010000"
          ∷ "030002010000"
          ∷ [];
    }
    ∷ []

pub all_bite : AllBite teeth
unfolding opened
all_bite = ((refl, refl), ((refl, refl), ((refl, refl), ((refl, refl), ((refl, refl), ((refl, refl), tt))))))
