-- Strings without the file: the default length is a number (`max_length` and `cut_string` of the definition read it in the Settings). Assumes nothing.
use Rattle.std.specs.Prelude.{◌≡◌, refl, List, ℕ, zero, suc, ◌+◌, ◌-◌, ◌*◌, ◌^◌, ◌<◌, min, leb, eqb, take, drop}
use Rattle.std.proofs.Math.Dec.{eqb-suc-zero}
use Rattle.definition.specs.declared.records.Constant.{Constant}
use Rattle.definition.specs.Base.{pick}
use Rattle.definition.specs.Layout.{word, settings}
use Rattle.definition.specs.Records.{constant_of}
use Rattle.definition.specs.Ask.{Result, ok, none}
use Rattle.definition.specs.Scalar.{max_length, on_result, cut_string, as_tree, empty_string}

unfoldable pub max_length_by : ℕ → ℕ → Result ℕ
max_length_by setting zero = ok setting
max_length_by setting (suc length) = pick (leb length 65535) (ok length) none

-- a run of characters, which begins at 0 where it has none, and a last word
unfoldable pub string_of : ℕ → ℕ → ℕ → Constant
string_of first count last = constant_of 8 0 (pick (eqb count 0) 0 first) count last

unfoldable pub cut_by : ℕ → ℕ → ℕ → ℕ → ℕ → Result Constant
cut_by setting length width first count = on_result (max_length_by setting length) (λ most. ok (string_of first (min count most) (width + 2 * (count - min count most))))

-- twice the characters cut, with the width, fit a word
pub record Countable (width count : ℕ) : Type 0 where
  pub fits : width + 2 * count < 2 ^ 32

-- ---- with the file's setting they are the definition's
pub max-length-is : (f : List ℕ) (length : ℕ) → max_length_by (word f settings 0 0) length ≡ max_length f length
unfolding max_length_by max_length
max-length-is f zero = refl
max-length-is f (suc length) = refl

pub cut-string-is : (f : List ℕ) (length width first count : ℕ) → cut_by (word f settings 0 0) length width first count ≡ cut_string f length width first count
unfolding cut_by cut_string string_of
cut-string-is f length width first count = rw max-length-is

pub empty-string-is : (f : List ℕ) (length width : ℕ) → as_tree (cut_by (word f settings 0 0) length width 0 0) ≡ empty_string f length width
unfolding empty_string
empty-string-is f length width = rw cut-string-is

-- the run in the node names the characters that the place holds
pub run_is : (characters : List ℕ) (first count last : ℕ) → take (string_of first count last).high (drop (string_of first count last).low characters) ≡ take count (drop first characters)
unfolding string_of constant_of
run_is characters first zero last = refl
run_is characters first (suc count) last = rw eqb-suc-zero
