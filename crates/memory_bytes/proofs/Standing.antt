-- A law for each return of cell.rt and of `narrow`. Assumes nothing.
use borrow.Enum.Refused.{opened}
use mathlib.Core.Path.{◌≡◌, refl, ap, sym, ◌∙◌}
use mathlib.Core.Bool.{Bool, true}
use mathlib.Core.List.{List, [], ◌∷◌}
use Prim.Native.Nat.{ℕ, suc, ◌+◌, ◌-◌, ◌*◌, ◌/◌, ◌^◌, ◌≤◌, ◌<◌}
use native.Mathlib.Omega.{arith}
use native.Mathlib.Nat.{pow-le-pow_right}
use lib.ListN.{length, replicate}
use borrow.Author.Rules.{rules}
use borrow.Author.Tests.{eq-eqb, ne_eqb}
use types.Run.{OneOf, miss}
use denote.Enum.Declared.{tag_of}
use Rattle.definition.specs.declared.records.Shape.{Shape}
use Rattle.definition.specs.declared.records.Constant.{Constant}
use Rattle.definition.specs.Layout.{members}
use Rattle.definition.specs.Records.{constant_of}
use Rattle.definition.specs.Places.{first_named}
use Rattle.definition.specs.Scalar.{size_of, value_of}
use Rattle.laws.specs.Puts.{Puts, puts_none}
use Rattle.tree.specs.declared.node.Node.{Node}
use Rattle.memory_definition.specs.contracts.form.Form.{the_type}
use Rattle.memory_definition.specs.declared.form.Form.{Form}
use Rattle.memory_definition.specs.declared.form.Form.TheVariants as form
use Rattle.memory_definition.specs.Cells.{Cell}
use Rattle.memory_definition.specs.Numbers.{little_endian, complement, narrowed, character_bytes, string_bytes}
use Rattle.memory_definition.specs.Forms.{form_at, form_of, constant_on, held_constant, member_link, held_as, held, file_characters, characters_from, text_on, every_below, narrow_as, narrow, size_as, bytes_as, bytes}
use Rattle.memory_definition.specs.Memory.{size}
use Rattle.memory_laws.specs.Bytes.{Signed, plain-sign, Sided, plain, negative, natural, sided}
use Rattle.memory_laws.specs.Fits.{plain-held, Fitting, fitting}
use Rattle.std.specs.Prelude.{Option, Some, None}
use Rattle.std.specs.Option.{unwrap_or}
use Rattle.tree.specs.Part.{on_end}
use Rattle.memory_forms.specs.Cell.{node_of, cell_of}
use Rattle.memory_bytes.specs.Flipped.{flipped, flipped-is, Within}

-- ---- `put_integer`
module _ {bits : ℕ} {c : Constant} (w : Within bits c) {z : ℕ} (is : z ≡ size_of c) where
  pub size-some : c.sign ≡ 1 → 0 < z
  size-some s = omega (arith, w.some s)

  module _ {old : List ℕ} {at r : ℕ} {new : List ℕ} where
    pub below_put : c.sign ≡ 1 → Puts (flipped (bits / 8) (z - 1)) old at r new → Puts (little_endian (bits / 8) (complement bits c)) old at r new
    unfolding complement
    below_put s p =
        let q : suc (z - 1) ≡ size_of c = omega (arith, w.some s) in
        let l : z - 1 < 2 ^ bits = omega (arith, w.most s, w.some s) in
        let e : flipped (bits / 8) (z - 1) ≡ little_endian (bits / 8) (2 ^ bits - suc (z - 1)) = flipped-is (bits / 8) bits (z - 1) (omega arith) l in
        let g : flipped (bits / 8) (z - 1) ≡ little_endian (bits / 8) (2 ^ bits - size_of c) = e ∙ ap (λ n. little_endian (bits / 8) (2 ^ bits - n)) q in
        rw (eq-eqb c.sign 1 s, ← g) p

    pub above-put : (c.sign ≡ 1 → ⊥) → Puts (little_endian (bits / 8) z) old at r new → Puts (little_endian (bits / 8) (complement bits c)) old at r new
    unfolding complement
    above-put n p = rw (ne_eqb c.sign 1 n, ← is) p

-- ---- what is held
held_plain : (f : List ℕ) (c : Cell) → held_constant f c ≡ true → Signed (constant_on c.node).sign (size_of (constant_on c.node))
unfolding size_of
held_plain f c h =
    let d : Constant = constant_on c.node in
    plain-sign d.kind d.sign d.low d.high d.width (plain-held f c h)

sided-within : (signed : Bool) (bits : ℕ) (c : Constant) → Sided signed bits c.sign (size_of c) → Within bits c
sided-within signed bits c (plain z s l) = record { some = λ e. absurd (omega arith); most = λ e. absurd (omega arith) }
sided-within signed bits c (negative z s p l) = record { some = λ e. p; most = λ e. omega (arith, pow-le-pow_right {n = 2} (omega arith) {i = bits - 1} {j = bits} (omega arith)) }
sided-within signed bits c (natural z s l) = record { some = λ e. absurd (omega arith); most = λ e. absurd (omega arith) }

module _ (f : List ℕ) (s : Shape) (n : Node) (h : held f (cell_of s n) ≡ true) {x : Form} (is : x ≡ form_at f s n.value.kind) where
  form-is : form_of f (cell_of s n) ≡ x
  unfolding form_of
  form-is = sym is

  as-form : held_as f x (cell_of s n) ≡ true
  unfolding held
  as-form = rw (← form-is) h

  pub number-within : {signed : Bool} {bits kind width : ℕ} → x ≡ form.Number signed bits kind width → {c : Constant} → c ≡ constant_on (node_of n) → Within bits c
  unfolding held_as value_of
  number-within {signed} {bits} {kind} {width} e q =
      let k : held_constant f (cell_of s n) ≡ true = rw e at as-form in
      let g : form_of f (cell_of s n) ≡ form.Number signed bits kind width = form-is ∙ e in
      let i : Fitting (form.Number signed bits kind width) (constant_on (node_of n)) = rw g at (fitting f (cell_of s n) k) in
      rw q (sided-within signed bits (constant_on (node_of n)) (sided signed bits (constant_on (node_of n)).sign (size_of (constant_on (node_of n))) (held_plain f (cell_of s n) k) i))

  pub string-few : {most width : ℕ} → x ≡ form.String most width → n.value.high ≤ most
  unfolding held_as constant_on constant_of
  string-few {most} {width} e =
      let k : held_constant f (cell_of s n) ≡ true = rw e at as-form in
      let g : form_of f (cell_of s n) ≡ form.String most width = form-is ∙ e in
      let i : Fitting (form.String most width) (constant_on (node_of n)) = rw g at (fitting f (cell_of s n) k) in
      i.1

  -- ---- room
  module _ (at : ℕ) (old : List ℕ) (room : at + size f (cell_of s n) ≤ length old) where
    room_as : at + size_as x ≤ length old
    unfolding size
    room_as = rw form-is at room

    pub room-null : x ≡ form.Null → at + 4 ≤ length old
    unfolding size_as
    room-null e = rw e at room_as

    pub room-bool : x ≡ form.Bool → at + 1 ≤ length old
    unfolding size_as
    room-bool e = rw e at room_as

    pub room-number : {signed : Bool} {bits kind width : ℕ} → x ≡ form.Number signed bits kind width → at + bits / 8 ≤ length old
    unfolding size_as
    room-number e = rw e at room_as

    pub room-real : x ≡ form.Real → at + 4 ≤ length old
    unfolding size_as
    room-real e = rw e at room_as

    pub room-long-real : x ≡ form.LongReal → at + 8 ≤ length old
    unfolding size_as
    room-long-real e = rw e at room_as

    pub room-string : {most width : ℕ} → x ≡ form.String most width → at + (4 + character_bytes width * most) ≤ length old
    unfolding size_as
    room-string e = rw e at room_as

    pub room-member : {first many : ℕ} → x ≡ form.Enumeration first many → at + 2 ≤ length old
    unfolding size_as
    room-member e = rw e at room_as

    pub put-head : x ≡ form.Head → Puts (bytes f (file_characters f) (cell_of s n)) old at at old
    unfolding bytes bytes_as
    put-head e = rw (form-is, e) (puts_none old at (omega arith))

    pub put-nothing : x ≡ form.Nothing → Puts (bytes f (file_characters f) (cell_of s n)) old at at old
    unfolding bytes bytes_as
    put-nothing e = rw (form-is, e) (puts_none old at (omega arith))

  -- ---- what is put
  module _ {old : List ℕ} {at r : ℕ} {new : List ℕ} where
    put_as : Puts (bytes_as f x (file_characters f) (cell_of s n)) old at r new → Puts (bytes f (file_characters f) (cell_of s n)) old at r new
    unfolding bytes
    put_as p = rw form-is p

    pub put-null : x ≡ form.Null → Puts (replicate 4 0) old at r new → Puts (bytes f (file_characters f) (cell_of s n)) old at r new
    unfolding bytes_as
    put-null e p = put_as (rw e p)

    pub put-bool : x ≡ form.Bool → Puts (little_endian 1 n.value.low) old at r new → Puts (bytes f (file_characters f) (cell_of s n)) old at r new
    unfolding bytes_as
    put-bool e p = put_as (rw e p)

    pub put-integral : {signed : Bool} {bits kind width : ℕ} → x ≡ form.Number signed bits kind width → {c : Constant} → c ≡ constant_on (node_of n)
        → Puts (little_endian (bits / 8) (complement bits c)) old at r new → Puts (bytes f (file_characters f) (cell_of s n)) old at r new
    unfolding bytes_as
    put-integral e q p = put_as (rw (e, ← q) p)

    pub put-real : x ≡ form.Real → {c : Constant} → c ≡ constant_on (node_of n) → {z : ℕ} → z ≡ size_of c → {b : ℕ} → b ≡ narrowed z
        → Puts (little_endian 4 b) old at r new → Puts (bytes f (file_characters f) (cell_of s n)) old at r new
    unfolding bytes_as
    put-real e q i j p = put_as (rw (e, ← q, ← i, ← j) p)

    pub put-long-real : x ≡ form.LongReal → {c : Constant} → c ≡ constant_on (node_of n) → {z : ℕ} → z ≡ size_of c
        → Puts (little_endian 8 z) old at r new → Puts (bytes f (file_characters f) (cell_of s n)) old at r new
    unfolding bytes_as
    put-long-real e q i p = put_as (rw (e, ← q, ← i) p)

    pub put-text : {most width : ℕ} → x ≡ form.String most width → Puts (string_bytes most width (characters_from (file_characters f) n.value.low n.value.high)) old at r new
        → Puts (bytes f (file_characters f) (cell_of s n)) old at r new
    unfolding bytes_as text_on
    put-text e p = put_as (rw e p)

    pub put-member : {first many : ℕ} → x ≡ form.Enumeration first many → (place : Option ℕ) → on_end place (λ p. suc (first + p)) 0 ≡ first_named f members n.value.low first many
        → {w : ℕ} → w ≡ unwrap_or place 0 → Puts (little_endian 2 w) old at r new → Puts (bytes f (file_characters f) (cell_of s n)) old at r new
    unfolding bytes_as member_link held_as
    put-member {first} {many} e place q {w} i p = put_as (rw (e, ← q, g place) (rw i at p))
      where
        g : (o : Option ℕ) → on_end o (λ k. suc (first + k)) 0 - suc first ≡ unwrap_or o 0
        g (Some k) = omega arith
        g None = omega arith

-- ---- `narrow`
-- every form but a string
abbrev textless : List ℕ
textless = 0 ∷ 1 ∷ 2 ∷ 3 ∷ 4 ∷ 5 ∷ 7 ∷ 8 ∷ []

module _ (f : List ℕ) (s : Shape) (n : Node) {x : Form} (is : x ≡ form_at f s n.value.kind) where
  pub narrow-text : {most width : ℕ} → x ≡ form.String most width → {l : ℕ} → l ≡ 256 ^ character_bytes width → {b : Bool} → b ≡ every_below l (characters_from (file_characters f) n.value.low n.value.high)
      → b ≡ narrow f (file_characters f) (cell_of s n)
  unfolding narrow narrow_as form_of text_on
  narrow-text e q h = rw (← is, e, ← q) h

  pub narrow-other : OneOf textless (tag_of the_type x) → true ≡ narrow f (file_characters f) (cell_of s n)
  unfolding narrow narrow_as form_of
  narrow-other o = rw (← is) (go x o)
    where
      go : (y : Form) → OneOf textless (tag_of the_type y) → true ≡ narrow_as y (file_characters f) (cell_of s n)
      go form.Head k = refl
      go form.Null k = refl
      go form.Bool k = refl
      go (form.Number signed bits kind width) k = refl
      go form.Real k = refl
      go form.LongReal k = refl
      go (form.String most width) k = absurd (miss textless 6 tt k)
      go (form.Enumeration first many) k = refl
      go form.Nothing k = refl

pub ruleset standing = (rules, opened, size-some, below_put, above-put, number-within, string-few, room-null, room-bool, room-number, room-real, room-long-real, room-string, room-member, put-head, put-nothing, put-null, put-bool, put-integral, put-real, put-long-real, put-text, put-member)

pub ruleset narrowing = (rules, opened, narrow-text, narrow-other)
