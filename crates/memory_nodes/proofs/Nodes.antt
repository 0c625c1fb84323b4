-- A law for each return of node.rt. Assumes nothing.
use mathlib.Core.Path.{◌≡◌, ap, ◌∙◌}
use mathlib.Core.Bool.{Bool}
use mathlib.Core.List.{List}
use Prim.Native.Nat.{ℕ, ◌+◌, ◌*◌, ◌/◌, ◌%◌, ◌^◌, ◌≤◌, ◌<◌}
use native.Mathlib.Omega.{arith}
use lib.Dec.{eqb}
use lib.ListN.{take, drop}
use borrow.Author.Rules.{rules}
use borrow.Author.Tests.{eq-eqb, ne_eqb}
use Rattle.definition.specs.declared.records.Constant.{Constant}
use Rattle.definition.specs.Base.{pick}
use Rattle.definition.specs.Layout.{word, members}
use Rattle.definition.specs.Records.{constant_of}
use Rattle.tree.specs.declared.node.Node.{Node}
use Rattle.tree.specs.Node.{as_node, nameless}
use Rattle.memory_definition.specs.declared.form.Form.{Form}
use Rattle.memory_definition.specs.declared.form.Form.TheVariants as form
use Rattle.memory_definition.specs.Numbers.{number_from, literal_read, widened, character_bytes}
use Rattle.memory_definition.specs.Forms.{size_as, node_of, real_read, string_read, node_as}
use Rattle.memory_laws.specs.Same.{SizedAs}
use Rattle.memory_nodes.specs.Readable.{whole-bytes}
use Rattle.memory_nodes.specs.Reading.{own, seen, length-own}

-- ---- constants
module _ {r : Node} where
  pub simple-is : (kind low : ℕ) → r ≡ nameless (record { kind = kind; sign = 0; low = low; high = 0; width = 0 }) → r ≡ as_node (node_of (constant_of kind 0 low 0 0))
  unfolding constant_of
  simple-is kind low e = e

  pub real-is : (n : ℕ) {c : Constant} → c ≡ constant_of 3 0 (n % 2 ^ 32) (n / 2 ^ 32) 0 → r ≡ nameless c → r ≡ as_node (real_read n)
  unfolding real_read
  real-is n e h = h ∙ ap (λ c. as_node (node_of c)) e

  pub string-is : (at many width low : ℕ) → low ≡ pick (eqb many 0) 0 at → r ≡ nameless (record { kind = 8; sign = 0; low = low; high = many; width = width }) → r ≡ as_node (string_read at many width)
  unfolding string_read constant_of
  string-is at many width low e h = h ∙ rw e

  pub number_is : (signed : Bool) (bits kind width m : ℕ) {n : ℕ} {c : Constant} → n ≡ m → c ≡ literal_read signed bits kind width n → r ≡ nameless c
      → r ≡ as_node (node_of (literal_read signed bits kind width m))
  number_is signed bits kind width m i e h = h ∙ ap (λ c. as_node (node_of c)) (e ∙ ap (literal_read signed bits kind width) i)

pub no-characters : (many at : ℕ) → many ≡ 0 → 0 ≡ pick (eqb many 0) 0 at
no-characters many at e = rw (eq-eqb many 0 e)

pub some-characters : (many at : ℕ) → (many ≡ 0 → ⊥) → at ≡ pick (eqb many 0) 0 at
some-characters many at n = rw (ne_eqb many 0 n)

-- ---- room
pub bits-room : (bits : ℕ) → bits ≤ 64 → bits / 8 ≤ 8
bits-room bits p = omega arith

pub bits_below : (bits n : ℕ) → 8 * (bits / 8) ≡ bits → n < 256 ^ (bits / 8) → n < 2 ^ bits
bits_below bits n e h = rw (← whole-bytes bits e) h

module _ (fm : Form) (from : ℕ) {l : ℕ} (h : from + size_as fm ≤ l) where
  pub bool-room : fm ≡ form.Bool → from + 1 ≤ l
  unfolding size_as
  bool-room e = rw e at h

  pub number-room : (signed : Bool) (bits kind width : ℕ) → fm ≡ form.Number signed bits kind width → from + bits / 8 ≤ l
  unfolding size_as
  number-room signed bits kind width e = rw e at h

  pub real-room : fm ≡ form.Real → from + 4 ≤ l
  unfolding size_as
  real-room e = rw e at h

  pub long-room : fm ≡ form.LongReal → from + 8 ≤ l
  unfolding size_as
  long-room e = rw e at h

  pub string-room : (most width : ℕ) → fm ≡ form.String most width → from + (4 + character_bytes width * most) ≤ l
  unfolding size_as
  string-room most width e = rw e at h

  pub length-room : {most width : ℕ} → fm ≡ form.String most width → from + 2 + 2 ≤ l
  length-room {most} {width} e = omega (arith, string-room most width e)

  pub member-room : {first count : ℕ} → fm ≡ form.Enumeration first count → from + 2 ≤ l
  unfolding size_as
  member-room e = rw e at h

module _ (fm : Form) (s : SizedAs fm) {signed : Bool} {bits kind width : ℕ} (e : fm ≡ form.Number signed bits kind width) where
  number-sized : (0 < bits) × (8 * (bits / 8) ≡ bits) × (bits ≤ 64)
  number-sized = rw e at s

  pub sized-some : 0 < bits
  sized-some = number-sized.0

  pub sized-whole : 8 * (bits / 8) ≡ bits
  sized-whole = number-sized.1

  pub sized-most : bits ≤ 64
  sized-most = number-sized.2

-- ---- each form
module _ (f : List ℕ) (fm : Form) (at head parts : ℕ) (bytes : List ℕ) (from : ℕ) where
  abbrev read : Node
  read = as_node (node_as f fm at (seen head parts) (own fm bytes from))

  module _ {r : Node} where
    pub read_head : fm ≡ form.Head → r ≡ as_node (node_of (constant_of head 0 parts 0 0)) → r ≡ read
    unfolding node_as
    read_head e h = rw e h

    pub read-null : fm ≡ form.Null → r ≡ as_node (node_of (constant_of 10 0 0 0 0)) → r ≡ read
    unfolding node_as
    read-null e h = rw e h

    pub read-bool : fm ≡ form.Bool → {n : ℕ} → n ≡ number_from (take 1 (drop from bytes)) → r ≡ as_node (node_of (constant_of 0 0 n 0 0)) → r ≡ read
    unfolding node_as size_as
    read-bool e i h = rw (e, ← i) h

    pub read_number : {signed : Bool} {bits kind width : ℕ} → fm ≡ form.Number signed bits kind width
        → r ≡ as_node (node_of (literal_read signed bits kind width (number_from (take (bits / 8) (drop from bytes))))) → r ≡ read
    unfolding node_as size_as
    read_number e h = rw e h

    pub read_real : fm ≡ form.Real → {n m : ℕ} → n ≡ number_from (take 4 (drop from bytes)) → m ≡ widened n → r ≡ as_node (real_read m) → r ≡ read
    unfolding node_as size_as
    read_real e i j h = rw (e, ← i, ← j) h

    pub read-long : fm ≡ form.LongReal → {n : ℕ} → n ≡ number_from (take 8 (drop from bytes)) → r ≡ as_node (real_read n) → r ≡ read
    unfolding node_as size_as
    read-long e i h = rw (e, ← i) h

    pub read-string : {most width : ℕ} → fm ≡ form.String most width → {n : ℕ} → n ≡ number_from (take 2 (drop (from + 2) bytes)) → r ≡ as_node (string_read at n width) → r ≡ read
    unfolding node_as size_as
    read-string {most} {width} e i h =
        rw (e, length-own (character_bytes width * most) bytes from, ← i) h

    pub read-member : {first count : ℕ} → fm ≡ form.Enumeration first count → {n w : ℕ} → n ≡ number_from (take 2 (drop from bytes)) → w ≡ word f members (first + n) 0
        → r ≡ as_node (node_of (constant_of 9 0 w 0 0)) → r ≡ read
    unfolding node_as size_as
    read-member e i j h = rw (e, ← i, ← j) h

    pub read-nothing : fm ≡ form.Nothing → r ≡ as_node (node_of (constant_of 0 0 0 0 0)) → r ≡ read
    unfolding node_as
    read-nothing e h = rw e h

pub ruleset leaves = (rules, simple-is, real-is, string-is, number_is, no-characters, some-characters, bits-room, bits_below)

pub ruleset reads = (rules, bool-room, number-room, real-room, long-room, length-room, member-room, sized-some, sized-whole, sized-most, read_head, read-null, read-bool, read_number, read_real, read-long, read-string, read-member, read-nothing)
