-- A law for each return of members.rt and held.rt. Assumes nothing.
use borrow.Enum.Refused.{opened}
use mathlib.Core.Path.{◌≡◌, refl, ap, sym, ◌∙◌}
use mathlib.Core.Bool.{Bool, true, false, not, ◌&&◌}
use mathlib.Core.List.{List, [], ◌∷◌}
use Prim.Native.Nat.{ℕ, suc, ◌+◌, ◌-◌, ◌*◌, ◌%◌, ◌^◌, ◌≤◌, ◌<◌, min}
use native.Mathlib.Omega.{arith}
use native.Mathlib.Nat.{add-zero, min-eq_left, min-le_right}
use native.Mathlib.Numerals.{add-one}
use lib.Dec.{eqb}
use lib.Ieee.{binary64, nan_bits}
use borrow.Author.Rules.{rules}
use borrow.Author.Tests.{eq-eqb, ne_eqb, lt-ltb, le-ltb, eqb-true, eqb-false, not-true, not-false}
use types.Run.{OneOf, miss}
use denote.Enum.Declared.{tag_of}
use Rattle.definition.specs.contracts.records.Shape as shape_types
use Rattle.definition.specs.declared.records.Shape.{Shape}
use Rattle.definition.specs.declared.records.Shape.TheVariants as shape
use Rattle.definition.specs.declared.records.Constant.{Constant}
use Rattle.definition.specs.Base.{pick}
use Rattle.definition.specs.Layout.{word, count, settings, shapes, members}
use Rattle.definition.specs.Records.{constant_of, shape_at}
use Rattle.definition.specs.Accept.{constant_plain}
use Rattle.definition.specs.Ask.{Result, ok, none}
use Rattle.definition.specs.Places.{first_named}
use Rattle.definition.specs.Scalar.{size_of, max_length, on_result, cut_string, uncut_word, as_string, converted}
use Rattle.definition.specs.Ask.{result_of}
use Rattle.scalar.specs.String.{max_length_by, string_of, max-length-is}
use Rattle.scalar.specs.Convert.{Counts}
use Rattle.tree.specs.declared.node.Node.{Node}
use Rattle.places.proofs.Steps.{Comes, starts_at, goes_further, stops_at, ends_at}
use Rattle.memory_definition.specs.contracts.form.Form as form_types
use Rattle.memory_definition.specs.declared.form.Form.{Form}
use Rattle.memory_definition.specs.declared.form.Form.TheVariants as form
use Rattle.memory_definition.specs.Cells.{entries_up_to, entries_of}
use Rattle.memory_definition.specs.Forms.{form_at, form_of, constant_on, same_constant, is_same, unchanged, on_base, fits_up_to, held_constant, held_head, member_link, held_as, held}
use Rattle.memory_laws.specs.Fits.{cut_to}
use Rattle.memory_laws.specs.Placed.{Placed, placed-bits, placed-base}
use Rattle.memory_forms.specs.Cell.{node_of, cell_of}
use Rattle.memory_forms.proofs.Forming.{unranged}
use Rattle.std.specs.Prelude.{None, Option, Some}
use Rattle.std.specs.Option.{is_some, option_eq}
use Rattle.tree.specs.Part.{on_end}

-- ---- `member_place`: the first places are passed, and the name is not theirs
pub record Passed (f : List ℕ) (name first many place : ℕ) : Type 0 where
  pub inside : place ≤ many
  pub same : first_named f members name (first + place) (many - place) ≡ first_named f members name first many

module _ (f : List ℕ) (name first many : ℕ) where
  pub none_passed : Passed f name first many 0
  none_passed = record { inside = omega arith; same = let e : many - 0 ≡ many = omega arith in rw (add-zero first, e) }

  module _ {place : ℕ} (x : Passed f name first many place) where
    pub none_named : many ≤ place → 0 ≡ first_named f members name first many
    unfolding first_named
    none_named h = let e : many - place ≡ 0 = omega arith in rw e at x.same

    module _ (h : place < many) {w : ℕ} (is : w ≡ word f members (first + place) 0) where
      left : many - place ≡ suc (many - suc place)
      left = omega arith

      pub named_here : w ≡ name → suc (first + place) ≡ first_named f members name first many
      unfolding first_named
      named_here e = rw (← x.same, left, ← is, eq-eqb w name e)

      pub one-passed : (w ≡ name → ⊥) → Passed f name first many (place + 1)
      unfolding first_named
      one-passed n =
          let q : first + suc place ≡ suc (first + place) = omega arith in
          record { inside = omega arith; same = rw (← x.same, left, ← is, ne_eqb w name n, add-one place, q) }

-- ---- `uncut_word`, `constant_on`
module _ {kind : ℕ} (last : ℕ) where
  pub string-word : kind ≡ 8 → last % 2 ≡ uncut_word kind last
  unfolding uncut_word
  string-word e = rw (eq-eqb kind 8 e)

  pub other_word : (kind ≡ 8 → ⊥) → last ≡ uncut_word kind last
  unfolding uncut_word
  other_word n = rw (ne_eqb kind 8 n)

pub constant-made : (n : Node) {w : ℕ} → w ≡ uncut_word n.value.kind n.value.width → record { kind = n.value.kind; sign = n.value.sign; low = n.value.low; high = n.value.high; width = w } ≡ constant_on (node_of n)
unfolding constant_on constant_of
constant-made n e = rw e

-- ---- constants that are equal
turned : (a b : ℕ) → eqb a b ≡ eqb b a
turned a b = go (eqb b a) refl
  where
    go : (t : Bool) → eqb b a ≡ t → eqb a b ≡ t
    go true e = eq-eqb a b (sym (eqb-true b a e))
    go false e = ne_eqb a b (λ q. let z = eqb-false b a e in z (sym q))

-- constants are equal word by word
abbrev equal : Constant → Constant → Bool
equal c d = eqb c.kind d.kind && (eqb c.sign d.sign && (eqb c.low d.low && (eqb c.high d.high && eqb c.width d.width)))

equal-same : (c d : Constant) → equal c d ≡ same_constant c d
unfolding same_constant
equal-same c d = go (eqb c.kind d.kind) (eqb c.sign d.sign) (eqb c.low d.low) (eqb c.high d.high)
  where
    e : Bool
    e = eqb c.width d.width

    go : (k s l h : Bool) → k && (s && (l && (h && e))) ≡ (k && s && l && h && e)
    go true true true true = refl
    go true true true false = refl
    go true true false h = refl
    go true false l h = refl
    go false s l h = refl

same-turned : (c d : Constant) → equal d c ≡ same_constant c d
same-turned c d = rw (turned d.kind c.kind, turned d.sign c.sign, turned d.low c.low, turned d.high c.high, turned d.width c.width) (equal-same c d)

-- ---- `unchanged_string`: with no character cut the last word is the width
cut-shorter : (width : ℕ) (c : Constant) (most : ℕ) → most < c.high → same_constant c (cut_to width c most) ≡ false
unfolding same_constant constant_of
cut-shorter width c most h =
    let e : eqb c.high (min c.high most) ≡ false = ne_eqb c.high (min c.high most) (λ q. omega (arith, min-le_right c.high most)) in
    rw e (go (eqb c.kind 8 && eqb c.sign 0 && eqb c.low (pick (eqb (min c.high most) 0) 0 c.low)))
  where
    go : (x : Bool) → x && false && eqb c.width (width + 2 * (c.high - min c.high most)) ≡ false
    go true = refl
    go false = refl

cut-whole : (width : ℕ) (c : Constant) (most : ℕ) → c.high ≤ most → cut_to width c most ≡ string_of c.low c.high width
unfolding string_of
cut-whole width c most h =
    let m : min c.high most ≡ c.high = min-eq_left h in
    let w : width + 2 * (c.high - c.high) ≡ width = omega arith in
    rw (m, w)

no-string : (width : ℕ) (c : Constant) → eqb c.kind 8 ≡ false → same_constant c (string_of c.low c.high width) ≡ false
unfolding same_constant string_of constant_of
no-string width c k = rw k

module _ (f : List ℕ) (length width : ℕ) (c : Constant) {setting : ℕ} (is : setting ≡ word f settings 0 0) where
  by_length : {r : Result ℕ} → r ≡ max_length_by setting length
      → unchanged f (shape.String length width) c ≡ is_same c (pick (eqb c.kind 8) (on_result r (λ most. ok (cut_to width c most))) none)
  unfolding unchanged converted as_string cut_string
  by_length {r} h = let e : max_length f length ≡ r = sym (max-length-is f length) ∙ rw (← is) (sym h) in rw e

  module _ {m : Option ℕ} (h : result_of m ≡ max_length_by setting length) where
    pub no_length : m ≡ None → false ≡ unchanged f (shape.String length width) c
    no_length e = sym (by_length {r = none} (rw e at h) ∙ go (eqb c.kind 8))
      where
        go : (b : Bool) → is_same c (pick b none none) ≡ false
        go true = refl
        go false = refl

    module _ {n : ℕ} (e : m ≡ Some n) where
      pub too_long : n < c.high → false ≡ unchanged f (shape.String length width) c
      too_long l = sym (by_length {r = ok n} (rw e at h) ∙ go (eqb c.kind 8))
        where
          go : (b : Bool) → is_same c (pick b (ok (cut_to width c n)) none) ≡ false
          go true = cut-shorter width c n l
          go false = refl

      pub whole-string : c.high ≤ n → {d : Constant} → d ≡ string_of c.low c.high width → {b : Bool} → b ≡ equal c d → b ≡ unchanged f (shape.String length width) c
      whole-string l {d} q {b} s = sym (by_length {r = ok n} (rw e at h) ∙ ap (λ x. is_same c (pick (eqb c.kind 8) (ok x) none)) (cut-whole width c n l ∙ sym q) ∙ go (eqb c.kind 8) refl)
        where
          go : (k : Bool) → eqb c.kind 8 ≡ k → is_same c (pick k (ok d) none) ≡ b
          go true k = sym (s ∙ equal-same c d)
          go false k = sym (s ∙ equal-same c d ∙ rw q (no-string width c k))

-- ---- `unchanged`
pub as-string : (f : List ℕ) {s : Shape} (c : Constant) {length width : ℕ} → s ≡ shape.String length width → {b : Bool} → b ≡ unchanged f (shape.String length width) c → b ≡ unchanged f s c
as-string f c e h = rw e h

-- every shape but the string
abbrev stringless : List ℕ
stringless = 0 ∷ 1 ∷ 2 ∷ 3 ∷ 4 ∷ 5 ∷ 6 ∷ 7 ∷ 8 ∷ 10 ∷ 11 ∷ 12 ∷ 13 ∷ 14 ∷ 15 ∷ 16 ∷ 17 ∷ []

-- nothing is cut there
pub nothing-counted : (s : Shape) (c : Constant) → OneOf stringless (tag_of shape_types.the_type s) → Counts s c
nothing-counted s c h = record { of_string = λ length width e k. absurd (miss stringless 9 tt (rw e at h)) }

pub same-value : (f : List ℕ) (s : Shape) (c : Constant) (l : Option Constant) → result_of l ≡ converted f s c → {b : Bool} → b ≡ option_eq equal l (Some c) → b ≡ unchanged f s c
unfolding unchanged
same-value f s c l is h = rw (← is) (h ∙ go l)
  where
    go : (m : Option Constant) → option_eq equal m (Some c) ≡ is_same c (result_of m)
    go (Some d) = same-turned c d
    go None = refl

-- ---- `fits_up_to`
pub base-placed : {f : List ℕ} {s : Shape} → Placed f s → {base low high : ℕ} → s ≡ shape.Subrange base low high → {t : Shape} → t ≡ shape_at f base → Placed f t
base-placed p q g = rw g (placed-base p q)

no-base : (s : Shape) (g : ℕ → Bool) → OneOf unranged (tag_of shape_types.the_type s) → true ≡ on_base s g
no-base shape.Bool g h = refl
no-base (shape.Int bits) g h = refl
no-base (shape.UInt bits) g h = refl
no-base (shape.Real bits) g h = refl
no-base (shape.Bytes bits) g h = refl
no-base (shape.Time bits) g h = refl
no-base (shape.Date bits) g h = refl
no-base (shape.TimeOfDay bits) g h = refl
no-base (shape.DateAndTime bits) g h = refl
no-base (shape.String length width) g h = refl
no-base (shape.Enumeration first many default underlying) g h = refl
no-base (shape.Structure first many) g h = refl
no-base (shape.Array element first many) g h = refl
no-base (shape.Subrange base low high) g h = absurd (miss unranged 13 tt h)
no-base (shape.FunctionBlock name) g h = refl
no-base (shape.Interface name) g h = refl
no-base (shape.Reference target) g h = refl
no-base shape.Unknown g h = refl

module _ (f : List ℕ) (s : Shape) (c : Constant) where
  pub fits-starts : (most : ℕ) → Comes (λ k x. fits_up_to f k x c) (most - 0) s (fits_up_to f most s c)
  fits-starts most = starts_at (λ k x. fits_up_to f k x c) most s refl

  pub fits-ends : false ≡ fits_up_to f 0 s c
  unfolding fits_up_to
  fits-ends = refl

  module _ {b : Bool} (is : b ≡ unchanged f s c) where
    pub changed : b ≡ false → (k : ℕ) → false ≡ fits_up_to f (suc k) s c
    unfolding fits_up_to
    changed e k = rw (← is, e)

    module _ (e : b ≡ true) where
      pub fits_whole : OneOf unranged (tag_of shape_types.the_type s) → (k : ℕ) → true ≡ fits_up_to f (suc k) s c
      unfolding fits_up_to
      fits_whole o k = rw (← is, e) (no-base s (λ base. fits_up_to f k (shape_at f base) c) o)

      pub fits-base : {base low high : ℕ} → s ≡ shape.Subrange base low high → {t : Shape} → t ≡ shape_at f base → (k : ℕ) → fits_up_to f (suc k) s c ≡ fits_up_to f k t c
      unfolding fits_up_to
      fits-base q g k = let u : unchanged f s c ≡ true = sym is ∙ e in rw (u, q, g)

-- ---- `held_constant`, `held_real`
module _ (f : List ℕ) (s : Shape) (n : Node) where
  module _ {c : Constant} (on : c ≡ constant_on (node_of n)) {p : Bool} (is : p ≡ constant_plain c.kind c.sign c.low c.high c.width) where
    pub not_plain : p ≡ false → false ≡ held_constant f (cell_of s n)
    unfolding held_constant
    not_plain e = rw (← on, ← is, e)

    pub plain_fits : p ≡ true → {m : ℕ} → m ≡ count f shapes → {b : Bool} → b ≡ fits_up_to f (m + 1) s c → b ≡ held_constant f (cell_of s n)
    unfolding held_constant
    plain_fits e {m} q h = rw (← on, ← is, e, ← q, ← add-one m) h

  module _ {c : Constant} (is : c ≡ constant_on (node_of n)) {z : ℕ} (e : z ≡ size_of c) {t : Bool} (h : t ≡ nan_bits binary64 z) where
    real : (b : Bool) → held_as f form.Real (cell_of s n) ≡ held_constant f (cell_of s n) && not t
    unfolding held_as
    real b = rw (h, e, is)

    pub no-real : t ≡ true → false ≡ held_as f form.Real (cell_of s n)
    no-real q = sym (real t ∙ rw q (go (held_constant f (cell_of s n))))
      where
        go : (x : Bool) → x && false ≡ false
        go true = refl
        go false = refl

    pub a-real : t ≡ false → {b : Bool} → b ≡ held_constant f (cell_of s n) → b ≡ held_as f form.Real (cell_of s n)
    a-real q {b} g = sym (real t ∙ rw (q, ← g) (go b))
      where
        go : (x : Bool) → x && true ≡ x
        go true = refl
        go false = refl

-- ---- `held_array`, `held_head`, `held_member`
capped : (n m : ℕ) → n < 2 ^ 32 → eqb n (min m (2 ^ 32)) ≡ eqb n m
capped n m h = go (eqb n m) refl
  where
    go : (b : Bool) → eqb n m ≡ b → eqb n (min m (2 ^ 32)) ≡ b
    go true e = eq-eqb n (min m (2 ^ 32)) (let q = eqb-true n m e in omega arith)
    go false e = ne_eqb n (min m (2 ^ 32)) (λ q. let z = eqb-false n m e in z (omega arith))

module _ (f : List ℕ) (s : Shape) {kind : ℕ} (low : ℕ) where
  pub no-array : (kind ≡ 13 → ⊥) → false ≡ (eqb kind 13 && eqb low (entries_of f s))
  no-array n = rw (ne_eqb kind 13 n)

  pub an-array : kind ≡ 13 → low < 2 ^ 32 → {m : ℕ} → m ≡ count f shapes → {e : ℕ} → e ≡ min (entries_up_to f m s) (2 ^ 32) → eqb low e ≡ (eqb kind 13 && eqb low (entries_of f s))
  unfolding entries_of
  an-array k l {m} q h = rw (eq-eqb kind 13 k, ← q, h) (capped low (entries_up_to f m s) l)

-- every shape but the structure, the array and the function block
abbrev partless : List ℕ
partless = 0 ∷ 1 ∷ 2 ∷ 3 ∷ 4 ∷ 5 ∷ 6 ∷ 7 ∷ 8 ∷ 9 ∷ 10 ∷ 13 ∷ 15 ∷ 16 ∷ 17 ∷ []

module _ (f : List ℕ) (n : Node) where
  pub no-head : (s : Shape) → OneOf partless (tag_of shape_types.the_type s) → false ≡ held_head f (cell_of s n)
  unfolding held_head
  no-head shape.Bool h = refl
  no-head (shape.Int bits) h = refl
  no-head (shape.UInt bits) h = refl
  no-head (shape.Real bits) h = refl
  no-head (shape.Bytes bits) h = refl
  no-head (shape.Time bits) h = refl
  no-head (shape.Date bits) h = refl
  no-head (shape.TimeOfDay bits) h = refl
  no-head (shape.DateAndTime bits) h = refl
  no-head (shape.String length width) h = refl
  no-head (shape.Enumeration first many default underlying) h = refl
  no-head (shape.Structure first many) h = absurd (miss partless 11 tt h)
  no-head (shape.Array element first many) h = absurd (miss partless 12 tt h)
  no-head (shape.Subrange base low high) h = refl
  no-head (shape.FunctionBlock name) h = absurd (miss partless 14 tt h)
  no-head (shape.Interface name) h = refl
  no-head (shape.Reference target) h = refl
  no-head shape.Unknown h = refl

  module _ {s : Shape} where
    pub structure-head : {first many : ℕ} → s ≡ shape.Structure first many → (eqb n.value.kind 14 && eqb n.value.low many) ≡ held_head f (cell_of s n)
    unfolding held_head
    structure-head e = rw e

    pub array_head : {e first many : ℕ} → s ≡ shape.Array e first many → {b : Bool} → b ≡ (eqb n.value.kind 13 && eqb n.value.low (entries_of f s)) → b ≡ held_head f (cell_of s n)
    unfolding held_head
    array_head e h = rw e (rw e at h)

    pub block-head : {name : ℕ} → s ≡ shape.FunctionBlock name → eqb n.value.kind 14 ≡ held_head f (cell_of s n)
    unfolding held_head
    block-head e = rw e

abbrev link : List ℕ → ℕ → ℕ → ℕ → ℕ
link f low first many = first_named f members low first many

module _ (f : List ℕ) (low first many : ℕ) {kind : ℕ} where
  pub no_member : (kind ≡ 9 → ⊥) → false ≡ (eqb kind 9 && not (eqb (link f low first many) 0))
  no_member n = rw (ne_eqb kind 9 n)

  pub a-member : kind ≡ 9 → (place : Option ℕ) → on_end place (λ p. suc (first + p)) 0 ≡ link f low first many → is_some place ≡ (eqb kind 9 && not (eqb (link f low first many) 0))
  a-member k place h = rw (eq-eqb kind 9 k, ← h) (go place)
    where
      go : (p : Option ℕ) → is_some p ≡ not (eqb (on_end p (λ q. suc (first + q)) 0) 0)
      go (Some p) = rw (ne_eqb (suc (first + p)) 0 (λ e. omega arith))
      go None = refl

-- ---- `held`
abbrev constants : List ℕ
constants = 2 ∷ 3 ∷ 5 ∷ 6 ∷ []

module _ (f : List ℕ) (s : Shape) (n : Node) {x : Form} (is : x ≡ form_at f s n.value.kind) where
  by_form : held f (cell_of s n) ≡ held_as f x (cell_of s n)
  unfolding held form_of
  by_form = rw (← is)

  pub held-null : x ≡ form.Null → eqb n.value.kind 10 ≡ held f (cell_of s n)
  unfolding held_as
  held-null e = rw (by_form, e)

  pub held-nothing : x ≡ form.Nothing → false ≡ held f (cell_of s n)
  unfolding held_as
  held-nothing e = rw (by_form, e)

  module _ {b : Bool} where
    pub held-as-head : x ≡ form.Head → b ≡ held_head f (cell_of s n) → b ≡ held f (cell_of s n)
    unfolding held_as
    held-as-head e h = rw (by_form, e) h

    pub held-as-real : x ≡ form.Real → b ≡ held_as f form.Real (cell_of s n) → b ≡ held f (cell_of s n)
    held-as-real e h = rw (by_form, e) h

    pub held-as-member : {first many : ℕ} → x ≡ form.Enumeration first many → b ≡ (eqb n.value.kind 9 && not (eqb (first_named f members n.value.low first many) 0)) → b ≡ held f (cell_of s n)
    unfolding held_as member_link
    held-as-member e h = rw (by_form, e) h

    pub held-as-constant : OneOf constants (tag_of form_types.the_type x) → b ≡ held_constant f (cell_of s n) → b ≡ held f (cell_of s n)
    unfolding held_as
    held-as-constant o h = h ∙ sym (by_form ∙ go x o)
      where
        go : (y : Form) → OneOf constants (tag_of form_types.the_type y) → held_as f y (cell_of s n) ≡ held_constant f (cell_of s n)
        go form.Head k = absurd (miss constants 0 tt k)
        go form.Null k = absurd (miss constants 1 tt k)
        go form.Bool k = refl
        go (form.Number signed bits kind width) k = refl
        go form.Real k = absurd (miss constants 4 tt k)
        go form.LongReal k = refl
        go (form.String most width) k = refl
        go (form.Enumeration first many) k = absurd (miss constants 7 tt k)
        go form.Nothing k = absurd (miss constants 8 tt k)

pub ruleset naming = (rules, opened, none_passed, none_named, named_here, one-passed)

pub ruleset holding = (rules, opened, not-true, not-false, goes_further, stops_at, ends_at, string-word, other_word, constant-made, no_length, too_long, whole-string, as-string, nothing-counted, same-value, placed-bits, base-placed, fits-starts, fits-ends, changed, fits_whole, fits-base, not_plain, plain_fits, no-real, a-real, no-array, an-array, no-head, structure-head, array_head, block-head, no_member, a-member, held-null, held-nothing, held-as-head, held-as-real, held-as-member, held-as-constant)
