-- A law for each return of form.rt. Assumes nothing.
use borrow.Enum.Refused.{opened}
use mathlib.Core.Path.{◌≡◌, refl, sym, ◌∙◌}
use mathlib.Core.Bool.{Bool, true, false}
use mathlib.Core.List.{List, [], ◌∷◌}
use Prim.Native.Nat.{ℕ, zero, suc, ◌+◌, ◌-◌, ◌*◌, ◌/◌, ◌^◌, ◌≤◌, ◌<◌}
use native.Mathlib.Omega.{arith}
use native.Mathlib.Nat.{mul-le-mul}
use native.Mathlib.Numerals.{add-one}
use lib.Dec.{eqb}
use borrow.Author.Rules.{rules}
use borrow.Author.Tests.{eq-eqb, ne_eqb}
use types.Run.{OneOf, miss}
use denote.Enum.Declared.{tag_of}
use Rattle.definition.specs.contracts.records.Shape as shapes
use Rattle.definition.specs.declared.records.Shape.{Shape}
use Rattle.definition.specs.declared.records.Shape.TheVariants as shape
use Rattle.definition.specs.Base.{pick}
use Rattle.definition.specs.Layout.{word, count, settings}
use Rattle.definition.specs.Layout as layout
use Rattle.definition.specs.Records.{shape_at}
use Rattle.definition.specs.Scalar.{max_length, long}
use Rattle.scalar.specs.String.{max_length_by, max-length-is}
use Rattle.memory_definition.specs.contracts.form.Form as forms
use Rattle.memory_definition.specs.declared.form.Form.{Form}
use Rattle.memory_definition.specs.declared.form.Form.TheVariants as form
use Rattle.memory_definition.specs.Numbers.{character_bytes}
use Rattle.memory_definition.specs.Forms.{as_integer, as_text, stored_by, stored_up_to, stored, is_head, form_at, size_as}
use Rattle.definition.specs.Ask.{result_of}
use Rattle.std.specs.Prelude.{None, Option, Some}

-- ---- `as_integer`, `as_text`, `temporal`, `real`
module _ {base : Form} where
  module _ {signed : Bool} {bits kind width : ℕ} (e : base ≡ form.Number signed bits kind width) where
    pub integer-base : kind ≡ 1 → form.Number signed bits kind width ≡ as_integer base
    integer-base k = rw (e, eq-eqb kind 1 k)

    pub other-number : (kind ≡ 1 → ⊥) → form.Nothing ≡ as_integer base
    other-number n = rw (e, ne_eqb kind 1 n)

-- every form but a number
abbrev numberless : List ℕ
numberless = 0 ∷ 1 ∷ 2 ∷ 4 ∷ 5 ∷ 6 ∷ 7 ∷ 8 ∷ []

pub no_number : (base : Form) → OneOf numberless (tag_of forms.the_type base) → form.Nothing ≡ as_integer base
no_number form.Head h = refl
no_number form.Null h = refl
no_number form.Bool h = refl
no_number (form.Number signed bits kind width) h = absurd (miss numberless 3 tt h)
no_number form.Real h = refl
no_number form.LongReal h = refl
no_number (form.String most width) h = refl
no_number (form.Enumeration first many) h = refl
no_number form.Nothing h = refl

module _ {length : Option ℕ} (width : ℕ) where
  pub a-text : {n : ℕ} → length ≡ Some n → form.String n width ≡ as_text (result_of length) width
  a-text e = rw e

  pub no_text : length ≡ None → form.Nothing ≡ as_text (result_of length) width
  no_text e = rw e

module _ {bits : ℕ} where
  pub long-number : (signed : Bool) (kind : ℕ) → bits ≡ 64 → form.Number signed bits kind 1 ≡ form.Number signed bits kind (long bits)
  unfolding long
  long-number signed kind e = rw (eq-eqb bits 64 e)

  pub short-number : (signed : Bool) (kind : ℕ) → (bits ≡ 64 → ⊥) → {r : Form} → r ≡ form.Number signed bits kind 0 → r ≡ form.Number signed bits kind (long bits)
  unfolding long
  short-number signed kind n h = rw (ne_eqb bits 64 n) h

  pub long-real : bits ≡ 64 → form.LongReal ≡ pick {A = Form} (eqb bits 64) form.LongReal form.Real
  long-real e = rw (eq-eqb bits 64 e)

  pub short-real : (bits ≡ 64 → ⊥) → form.Real ≡ pick {A = Form} (eqb bits 64) form.LongReal form.Real
  short-real n = rw (ne_eqb bits 64 n)

-- ---- `own_form`: an arm for each shape
abbrev none : ℕ → Form
none base = form.Nothing

-- structures, arrays, subranges, function blocks, interfaces, and kinds that are unknown
abbrev formless : List ℕ
formless = 11 ∷ 12 ∷ 13 ∷ 14 ∷ 15 ∷ 17 ∷ []

module _ (f : List ℕ) where
  pub of_other : (s : Shape) → OneOf formless (tag_of shapes.the_type s) → form.Nothing ≡ stored_by f none s
  unfolding stored_by
  of_other shape.Bool h = absurd (miss formless 0 tt h)
  of_other (shape.Int bits) h = absurd (miss formless 1 tt h)
  of_other (shape.UInt bits) h = absurd (miss formless 2 tt h)
  of_other (shape.Real bits) h = absurd (miss formless 3 tt h)
  of_other (shape.Bytes bits) h = absurd (miss formless 4 tt h)
  of_other (shape.Time bits) h = absurd (miss formless 5 tt h)
  of_other (shape.Date bits) h = absurd (miss formless 6 tt h)
  of_other (shape.TimeOfDay bits) h = absurd (miss formless 7 tt h)
  of_other (shape.DateAndTime bits) h = absurd (miss formless 8 tt h)
  of_other (shape.String length width) h = absurd (miss formless 9 tt h)
  of_other (shape.Enumeration first many default underlying) h = absurd (miss formless 10 tt h)
  of_other (shape.Structure first many) h = refl
  of_other (shape.Array element first many) h = refl
  of_other (shape.Subrange base low high) h = refl
  of_other (shape.FunctionBlock name) h = refl
  of_other (shape.Interface name) h = refl
  of_other (shape.Reference target) h = absurd (miss formless 16 tt h)
  of_other shape.Unknown h = refl

  module _ {s : Shape} where
    pub of-bool : s ≡ shape.Bool → form.Bool ≡ stored_by f none s
    unfolding stored_by
    of-bool e = rw e

    pub of-reference : {target : ℕ} → s ≡ shape.Reference target → form.Null ≡ stored_by f none s
    unfolding stored_by
    of-reference e = rw e

    pub of_enumeration : {first many default underlying : ℕ} → s ≡ shape.Enumeration first many default underlying → form.Enumeration first many ≡ stored_by f none s
    unfolding stored_by
    of_enumeration e = rw e

    module _ {r : Form} where
      pub of_string : {length width : ℕ} → s ≡ shape.String length width → {setting : ℕ} → setting ≡ word f settings 0 0 → (m : Option ℕ) → result_of m ≡ max_length_by setting length
          → r ≡ as_text (result_of m) width → r ≡ stored_by f none s
      unfolding stored_by
      of_string {length} {width} e {setting} w m l h =
          let q : result_of m ≡ max_length f length = l ∙ rw w (max-length-is f length) in
          rw (e, ← q) h

      module _ {bits : ℕ} where
        pub of-int : s ≡ shape.Int bits → r ≡ form.Number true bits 1 0 → r ≡ stored_by f none s
        unfolding stored_by
        of-int e h = rw e h

        pub of-uint : s ≡ shape.UInt bits → r ≡ form.Number false bits 1 0 → r ≡ stored_by f none s
        unfolding stored_by
        of-uint e h = rw e h

        pub of-real : s ≡ shape.Real bits → r ≡ pick (eqb bits 64) form.LongReal form.Real → r ≡ stored_by f none s
        unfolding stored_by
        of-real e h = rw e h

        pub of-bytes : s ≡ shape.Bytes bits → r ≡ form.Number false bits 1 0 → r ≡ stored_by f none s
        unfolding stored_by
        of-bytes e h = rw e h

        pub of-time : s ≡ shape.Time bits → r ≡ form.Number true bits 4 (long bits) → r ≡ stored_by f none s
        unfolding stored_by
        of-time e h = rw e h

        pub of-date : s ≡ shape.Date bits → r ≡ form.Number false bits 6 (long bits) → r ≡ stored_by f none s
        unfolding stored_by
        of-date e h = rw e h

        pub of-time-of-day : s ≡ shape.TimeOfDay bits → r ≡ form.Number false bits 5 (long bits) → r ≡ stored_by f none s
        unfolding stored_by
        of-time-of-day e h = rw e h

        pub of-date-and-time : s ≡ shape.DateAndTime bits → r ≡ form.Number false bits 7 (long bits) → r ≡ stored_by f none s
        unfolding stored_by
        of-date-and-time e h = rw e h

-- ---- `stored_up_to`
-- every shape but the subrange
abbrev pub unranged : List ℕ
unranged = 0 ∷ 1 ∷ 2 ∷ 3 ∷ 4 ∷ 5 ∷ 6 ∷ 7 ∷ 8 ∷ 9 ∷ 10 ∷ 11 ∷ 12 ∷ 14 ∷ 15 ∷ 16 ∷ 17 ∷ []

no-base : (f : List ℕ) (below : ℕ → Form) (s : Shape) → OneOf unranged (tag_of shapes.the_type s) → stored_by f none s ≡ stored_by f below s
unfolding stored_by
no-base f below shape.Bool h = refl
no-base f below (shape.Int bits) h = refl
no-base f below (shape.UInt bits) h = refl
no-base f below (shape.Real bits) h = refl
no-base f below (shape.Bytes bits) h = refl
no-base f below (shape.Time bits) h = refl
no-base f below (shape.Date bits) h = refl
no-base f below (shape.TimeOfDay bits) h = refl
no-base f below (shape.DateAndTime bits) h = refl
no-base f below (shape.String length width) h = refl
no-base f below (shape.Enumeration first many default underlying) h = refl
no-base f below (shape.Structure first many) h = refl
no-base f below (shape.Array element first many) h = refl
no-base f below (shape.Subrange base low high) h = absurd (miss unranged 13 tt h)
no-base f below (shape.FunctionBlock name) h = refl
no-base f below (shape.Interface name) h = refl
no-base f below (shape.Reference target) h = refl
no-base f below shape.Unknown h = refl

module _ (f : List ℕ) (left : ℕ) (s : Shape) where
  pub stored-none : left ≡ 0 → form.Nothing ≡ stored_up_to f left s
  unfolding stored_up_to
  stored-none e = rw e

  module _ (n : left ≡ 0 → ⊥) where
    step : stored_up_to f left s ≡ stored_by f (λ base. stored_up_to f (left - 1) (shape_at f base)) s
    unfolding stored_up_to
    step = go left n
      where
        go : (k : ℕ) → (k ≡ 0 → ⊥) → stored_up_to f k s ≡ stored_by f (λ base. stored_up_to f (k - 1) (shape_at f base)) s
        go zero m = absurd (m refl)
        go (suc k) m = let e : suc k - 1 ≡ k = omega arith in rw e

    pub stored-own : {r : Form} → OneOf unranged (tag_of shapes.the_type s) → r ≡ stored_by f none s → r ≡ stored_up_to f left s
    stored-own o h = h ∙ no-base f (λ base. stored_up_to f (left - 1) (shape_at f base)) s o ∙ sym step

    pub stored-base : {r : Form} {base low high : ℕ} → s ≡ shape.Subrange base low high → {t : Shape} → t ≡ shape_at f base → {b : Form} → b ≡ stored_up_to f (left - 1) t → r ≡ as_integer b → r ≡ stored_up_to f left s
    unfolding stored_by
    stored-base e q p h = rw (step, e, ← q, ← p) h

-- ---- `form_of`
module _ (f : List ℕ) (s : Shape) (kind : ℕ) {b : Bool} (is : b ≡ is_head kind) where
  pub head-form : b ≡ true → form.Head ≡ form_at f s kind
  unfolding form_at
  head-form e = rw (← is, e)

  pub null-form : b ≡ false → kind ≡ 10 → form.Null ≡ form_at f s kind
  unfolding form_at
  null-form e k = rw (← is, e, eq-eqb kind 10 k)

  pub stored-form : b ≡ false → (kind ≡ 10 → ⊥) → {n : ℕ} → n ≡ count f layout.shapes → {r : Form} → r ≡ stored_up_to f (n + 1) s → r ≡ form_at f s kind
  unfolding form_at stored
  stored-form e k {n} q h = rw (← is, e, ne_eqb kind 10 k, ← q, ← add-one n) h

-- ---- `character_size`, `size_of`
module _ {width : ℕ} where
  pub one_byte : width ≡ 0 → 1 ≡ character_bytes width
  unfolding character_bytes
  one_byte e = rw e

  pub two_bytes : (width ≡ 0 → ⊥) → 2 ≡ character_bytes width
  unfolding character_bytes
  two_bytes n = rw (ne_eqb width 0 n)

pub text-small : (c n : ℕ) → c ≤ 2 → n < 2 ^ 32 → c * n ≤ 2 ^ 33
text-small c n h l = mul-le-mul h (let z : n ≤ 2 ^ 32 = omega arith in z)

module _ {x : Form} where
  pub size-head : x ≡ form.Head → 0 ≡ size_as x
  unfolding size_as
  size-head e = rw e

  pub size-null : x ≡ form.Null → 4 ≡ size_as x
  unfolding size_as
  size-null e = rw e

  pub size-bool : x ≡ form.Bool → 1 ≡ size_as x
  unfolding size_as
  size-bool e = rw e

  pub size_number : {signed : Bool} {bits kind width : ℕ} → x ≡ form.Number signed bits kind width → bits / 8 ≡ size_as x
  unfolding size_as
  size_number e = rw e

  pub size-real : x ≡ form.Real → 4 ≡ size_as x
  unfolding size_as
  size-real e = rw e

  pub size-long-real : x ≡ form.LongReal → 8 ≡ size_as x
  unfolding size_as
  size-long-real e = rw e

  pub size-text : {most width : ℕ} → x ≡ form.String most width → {c : ℕ} → c ≡ character_bytes width * most → 4 + c ≡ size_as x
  unfolding size_as
  size-text e q = rw (e, q)

  pub size-member : {first many : ℕ} → x ≡ form.Enumeration first many → 2 ≡ size_as x
  unfolding size_as
  size-member e = rw e

  pub size-nothing : x ≡ form.Nothing → 0 ≡ size_as x
  unfolding size_as
  size-nothing e = rw e

pub ruleset forming = (rules, opened, integer-base, other-number, no_number, a-text, no_text, long-number, short-number, long-real, short-real, of_other, of-bool, of-reference, of_enumeration, of_string, of-int, of-uint, of-real, of-bytes, of-time, of-date, of-time-of-day, of-date-and-time, stored-none, stored-own, stored-base, head-form, null-form, stored-form, one_byte, two_bytes, size-head, size-null, size-bool, size_number, size-real, size-long-real, size-text, size-member, size-nothing)
