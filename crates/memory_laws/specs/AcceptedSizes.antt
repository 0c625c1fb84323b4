-- The shapes of an accepted file have the sizes that reading back asks for. Assumes nothing.
use Rattle.std.specs.Prelude.{◌≡◌, Bool, ◌||◌, List, [], ◌∷◌, eqb}
use Rattle.std.proofs.Math.Path.{refl}
use Rattle.std.proofs.Math.Bool.{true, false}
use Prim.Native.Nat.{ℕ, zero, suc, ◌*◌, ◌/◌, ◌≤◌, ◌<◌}
use Rattle.std.proofs.Common.{arith, lit<}
use Rattle.std.proofs.Math.Dec.{leb}
use borrow.Author.Tests.{eqb-true, leb-true}
use Rattle.definition.specs.declared.records.Shape.{Shape}
use Rattle.definition.specs.declared.records.Shape.TheVariants as shape
use Rattle.definition.specs.Base.{pick, every}
use Rattle.definition.specs.Layout.{word, count, settings, shapes, members, most_records, limits_of_records}
use Rattle.definition.specs.Records.{shape_at}
use Rattle.definition.specs.Accept.{is_bits, plain_rules, counts_right}
use Rattle.definition.specs.Ask.{ok, none}
use Rattle.definition.specs.Scalar.{max_length}
use Rattle.laws.specs.Cases.{both, either, on-pick}
use Rattle.laws.specs.Accepted.{Accepted, count_most, word-rule}
use Rattle.laws.specs.Pointed.{ShapePointed, shape-pointed}
use Rattle.laws.specs.Bits.{Bits, shape-bits}
use Rattle.memory_definition.specs.declared.form.Form.{Form}
use Rattle.memory_definition.specs.declared.form.Form.TheVariants as form
use Rattle.memory_definition.specs.Cells.{Cell}
use Rattle.memory_definition.specs.Forms.{as_integer, as_text, stored_by, stored_up_to, stored, is_head, form_at, form_of}
use Rattle.memory_laws.specs.Lengths.{AlikeAll, all_done, all_next}
use Rattle.memory_laws.specs.Same.{SizedAs, Words, Sized, SizedAll}

-- ---- bits
whole-bytes : (bits : ℕ) → is_bits bits ≡ true → (0 < bits) × (8 * (bits / 8) ≡ bits) × (bits ≤ 64)
unfolding is_bits
whole-bytes bits e =
    either (eqb bits 8 || eqb bits 16 || eqb bits 32) (eqb bits 64) e
    (λ x. either (eqb bits 8 || eqb bits 16) (eqb bits 32) x
    (λ y. either (eqb bits 8) (eqb bits 16) y (λ z. rw (eqb-true bits 8 z) (omega arith, refl, omega arith)) (λ z. rw (eqb-true bits 16 z) (omega arith, refl, omega arith)))
    (λ z. rw (eqb-true bits 32 z) (omega arith, refl, omega arith)))
    (λ z. rw (eqb-true bits 64 z) (omega arith, refl, omega arith))

-- ---- the settings' length is at most 65535
module _ (f : List ℕ) (a : Accepted f) where
  one-setting : count f settings ≡ 1
  unfolding counts_right
  one-setting = eqb-true (count f settings) 1 (both (every (λ s. leb (count f s) (most_records s)) 14) (eqb (count f settings) 1) a.counts).1

  setting-short : word f settings 0 0 ≤ 65535
  unfolding plain_rules
  setting-short = leb-true (word f settings 0 0) 65535 (word-rule f a settings 0 (lit< tt) (omega (arith, one-setting)))

  few-members : count f members ≤ 4096
  unfolding most_records limits_of_records
  few-members = count_most f a members (lit< tt)

  -- a string is never longer
  sized-string : (length width : ℕ) → SizedAs (as_text (max_length f length) width)
  unfolding max_length
  sized-string zero width = setting-short
  sized-string (suc length) width = go (leb length 65535) refl
    where
      go : (b : Bool) → leb length 65535 ≡ b → SizedAs (as_text (pick b (ok length) none) width)
      go true e = leb-true length 65535 e
      go false e = tt

  sized-whole : (F : Form) → SizedAs F → SizedAs (as_integer F)
  sized-whole form.Head h = tt
  sized-whole form.Null h = tt
  sized-whole form.Bool h = tt
  sized-whole (form.Number signed bits kind width) h = on-pick SizedAs (eqb kind 1) (form.Number signed bits kind width) form.Nothing (λ e. h) (λ e. tt)
  sized-whole form.Real h = tt
  sized-whole form.LongReal h = tt
  sized-whole (form.String most width) h = tt
  sized-whole (form.Enumeration first count) h = tt
  sized-whole form.Nothing h = tt

  sized-by : (below : ℕ → Form) (n : ℕ) (s : Shape) → ((base : ℕ) → base < n → SizedAs (below base)) → Bits s → ShapePointed f n s → SizedAs (stored_by f below s)
  unfolding stored_by
  sized-by below n shape.Bool ih b p = tt
  sized-by below n (shape.Int bits) ih b p = whole-bytes bits b
  sized-by below n (shape.UInt bits) ih b p = whole-bytes bits b
  sized-by below n (shape.Real bits) ih b p = on-pick SizedAs (eqb bits 64) form.LongReal form.Real (λ e. tt) (λ e. tt)
  sized-by below n (shape.Bytes bits) ih b p = whole-bytes bits b
  sized-by below n (shape.Time bits) ih b p = whole-bytes bits b
  sized-by below n (shape.Date bits) ih b p = whole-bytes bits b
  sized-by below n (shape.TimeOfDay bits) ih b p = whole-bytes bits b
  sized-by below n (shape.DateAndTime bits) ih b p = whole-bytes bits b
  sized-by below n (shape.String length width) ih b p = sized-string length width
  sized-by below n (shape.Enumeration first many default underlying) ih b p = omega (arith, p.0, few-members)
  sized-by below n (shape.Structure first many) ih b p = tt
  sized-by below n (shape.Array element first many) ih b p = tt
  sized-by below n (shape.Subrange base low high) ih b p = sized-whole (below base) (ih base p.0)
  sized-by below n (shape.FunctionBlock name) ih b p = tt
  sized-by below n (shape.Interface name) ih b p = tt
  sized-by below n (shape.Reference target) ih b p = tt
  sized-by below n shape.Unknown ih b p = absurd p

  sized-up-to : (k n : ℕ) → n < count f shapes → SizedAs (stored_up_to f k (shape_at f n))
  unfolding stored_up_to
  sized-up-to zero n h = tt
  sized-up-to (suc k) n h =
      sized-by (λ base. stored_up_to f k (shape_at f base)) n (shape_at f n) (λ base l. sized-up-to k base (omega arith)) (shape-bits f a n h) (shape-pointed f a n h)

-- ---- the shapes of places: those of the file, strings of an initializer, and none
pub data Shaped (f : List ℕ) (s : Shape) : Type 0 where
  listed : (n : ℕ) → n < count f shapes → s ≡ shape_at f n → Shaped f s
  string : (length width : ℕ) → s ≡ shape.String length width → Shaped f s
  nowhere : s ≡ shape.Unknown → Shaped f s

module _ (f : List ℕ) (a : Accepted f) where
  string-stored : (length width : ℕ) → SizedAs (stored f (shape.String length width))
  unfolding stored stored_up_to stored_by
  string-stored length width = sized-string f a length width

  nowhere-stored : SizedAs (stored f shape.Unknown)
  unfolding stored stored_up_to stored_by
  nowhere-stored = tt

  listed-stored : (n : ℕ) → n < count f shapes → SizedAs (stored f (shape_at f n))
  unfolding stored
  listed-stored n h = sized-up-to f a (suc (count f shapes)) n h

  sized-stored : (s : Shape) → Shaped f s → SizedAs (stored f s)
  sized-stored s (listed n h e) = rw e (listed-stored n h)
  sized-stored s (string length width e) = rw e (string-stored length width)
  sized-stored s (nowhere e) = rw e nowhere-stored

  pub sized-form : (c : Cell) → Shaped f c.shape → SizedAs (form_of f c)
  unfolding form_of form_at
  sized-form c p =
      on-pick SizedAs (is_head c.node.kind) form.Head (pick (eqb c.node.kind 10) form.Null (stored f c.shape)) (λ e. tt)
      (λ e. on-pick SizedAs (eqb c.node.kind 10) form.Null (stored f c.shape) (λ z. tt) (λ z. sized-stored c.shape p))

  pub sized-accepted : (c : Cell) → Shaped f c.shape → Words c → Sized f c
  sized-accepted c p w = record { form = sized-form c p; words = w }

-- ---- lists of nodes
abbrev pub ShapedAll : List ℕ → List Cell → Type 0
ShapedAll f [] = Unit {0}
ShapedAll f (c ∷ cs) = Shaped f c.shape × ShapedAll f cs

abbrev pub WordsAll : List Cell → Type 0
WordsAll [] = Unit {0}
WordsAll (c ∷ cs) = Words c × WordsAll cs

pub sized-all : (f : List ℕ) → Accepted f → (cs : List Cell) → ShapedAll f cs → WordsAll cs → SizedAll f cs
sized-all f a [] s w = tt
sized-all f a (c ∷ cs) s w = (sized-accepted f a c s.0 w.0, sized-all f a cs s.1 w.1)

pub shaped-alike : (f : List ℕ) {cs ds : List Cell} → AlikeAll cs ds → ShapedAll f cs → ShapedAll f ds
shaped-alike f all_done s = tt
shaped-alike f (all_next a more) s = (rw a.place at s.0, shaped-alike f more s.1)
