-- A law for each return of readable.rt. Assumes nothing.
use borrow.Enum.Refused.{opened}
use mathlib.Core.Path.{◌≡◌, refl, ap, sym, subst, ◌∙◌}
use types.Run.{OneOf, miss}
use denote.Enum.Declared.{tag_of}
use Rattle.memory_definition.specs.contracts.form.Form.{the_type}
use Rattle.std.specs.Prelude.{Option, Some, None}
use Rattle.std.specs.Option.{unwrap_or}
use Rattle.tree.specs.Part.{on_end}
use mathlib.Core.Bool.{Bool, true, false, not, ◌&&◌}
use mathlib.Core.List.{List, [], ◌∷◌}
use Prim.Native.Nat.{ℕ, suc, ◌+◌, ◌-◌, ◌*◌, ◌%◌, ◌≤◌, ◌<◌}
use native.Mathlib.Omega.{arith}
use native.Mathlib.Nat.{mul-le-mul_left}
use lib.Dec.{eqb}
use lib.ListN.{length, take, drop, length-take, length-drop}
use lib.Seq.{take-take, drop-drop}
use borrow.Author.Rules.{rules}
use borrow.Author.Tests.{eq-eqb, ne_eqb, le-leb, lt-leb, not-true, not-false}
use Rattle.definition.specs.Base.{unused}
use Rattle.definition.specs.Layout.{members}
use Rattle.definition.specs.Places.{first_named}
use Rattle.tree.specs.declared.node.Node.{Node}
use Rattle.tree.specs.Node.{as_node}
use Rattle.memory_definition.specs.declared.form.Form.{Form}
use Rattle.memory_definition.specs.declared.form.Form.TheVariants as form
use Rattle.memory_definition.specs.Cells.{Cell, cell}
use Rattle.memory_definition.specs.Numbers.{number_from, character_bytes}
use Rattle.memory_definition.specs.Forms.{form_of, size_as, node_as, node_read, held, readable}
use Rattle.memory_laws.specs.Bytes.{Bytes, bytes_take, bytes_drop}
use Rattle.memory_forms.specs.Cell.{cell_of}
use Rattle.memory_laws.specs.Placed.{Placed}
use Rattle.memory_laws.specs.Same.{SizedAs}
use Rattle.memory_nodes.specs.Readable.{string_fills, fills, readable_by, readable-by}
use Rattle.memory_nodes.specs.Reading.{own, seen, read-seen, Formed, drop-take, length-own}
use Rattle.memory_nodes.proofs.Nodes.{string-room, member-room}

-- ---- a member's place
pub place-first : (first link : ℕ) (place : Option ℕ) → on_end place (λ p. suc (first + p)) 0 ≡ link → {r : ℕ} → r ≡ unwrap_or place 0 → r ≡ link - suc first
place-first first link place e h = h ∙ rw (← e) (go place)
  where
    go : (o : Option ℕ) → unwrap_or o 0 ≡ on_end o (λ p. suc (first + p)) 0 - suc first
    go (Some p) = omega arith
    go None = omega arith

-- ---- strings
module _ (bytes : List ℕ) (from most width : ℕ) where
  abbrev text : ℕ
  text = character_bytes width * most

  abbrev whole : List ℕ
  whole = take (4 + text) (drop from bytes)

  first-own : number_from (take 2 whole) ≡ number_from (take 2 (drop from bytes))
  first-own = ap number_from (take-take 2 (4 + text) (drop from bytes) (omega arith))

  module _ {n : ℕ} (i : n ≡ number_from (take 2 (drop from bytes))) where
    pub other-most : (n ≡ most % 65536 → ⊥) → false ≡ string_fills most width whole
    unfolding string_fills
    other-most h = rw (first-own, ← i, ne_eqb n (most % 65536) h)

    module _ (h : n ≡ most % 65536) {many : ℕ} (j : many ≡ number_from (take 2 (drop (from + 2) bytes))) where
      pub too_long : most < many → false ≡ string_fills most width whole
      unfolding string_fills
      too_long l = rw (first-own, ← i, eq-eqb n (most % 65536) h, length-own text bytes from, ← j, lt-leb many most l)

      pub zeros-behind : many ≤ most → {a b : ℕ} → a ≡ character_bytes width * many → b ≡ text → {r : Bool} → r ≡ unused (take (from + 4 + b - (from + 4 + a)) (drop (from + 4 + a) bytes)) → r ≡ string_fills most width whole
      unfolding string_fills
      zeros-behind l {a} {b} p q e =
          let few : character_bytes width * many ≤ text = mul-le-mul_left (character_bytes width) l in
          let parts : 4 + text ≡ 4 + a + (b - a) = omega (arith, p, q) in
          let long : from + 4 + b - (from + 4 + a) ≡ b - a = omega arith in
          let place : from + (4 + a) ≡ from + 4 + a = omega arith in
          let rest : drop (4 + a) whole ≡ take (b - a) (drop (from + 4 + a) bytes) =
          ap (λ k. drop (4 + a) (take k (drop from bytes))) parts ∙ drop-take (4 + a) (b - a) (drop from bytes) ∙ ap (take (b - a)) (drop-drop (4 + a) from bytes ∙ ap (λ k. drop k bytes) place) in
          e ∙ ap (λ k. unused (take k (drop (from + 4 + a) bytes))) long
          ∙ rw (first-own, ← i, eq-eqb n (most % 65536) h, length-own text bytes from, ← j, le-leb many most l, ← p, rest)

pub zeros-room : (width most many at : ℕ) {a b : ℕ} → a ≡ character_bytes width * many → b ≡ character_bytes width * most → many ≤ most → at + a ≤ at + b
zeros-room width most many at p q l = omega (arith, p, q, mul-le-mul_left (character_bytes width) l)

-- ---- each form
pub null-room : (fm : Form) (from : ℕ) {l : ℕ} → from + size_as fm ≤ l → fm ≡ form.Null → from + 4 ≤ l
unfolding size_as
null-room fm from h e = rw e at h

module _ (f : List ℕ) (fm : Form) (low : ℕ) (bytes : List ℕ) (from : ℕ) where
  pub fills-null : fm ≡ form.Null → {n : ℕ} → n ≡ number_from (take 4 (drop from bytes)) → eqb n 0 ≡ fills f fm low (own fm bytes from)
  unfolding fills size_as
  fills-null e i = rw (e, i)

  pub fills-string : {most width : ℕ} → fm ≡ form.String most width → {r : Bool} → r ≡ string_fills most width (take (4 + character_bytes width * most) (drop from bytes)) → r ≡ fills f fm low (own fm bytes from)
  unfolding fills size_as
  fills-string e h = rw e h

  pub fills-member : {first count : ℕ} → fm ≡ form.Enumeration first count → {n p : ℕ} → n ≡ number_from (take 2 (drop from bytes)) → p ≡ first_named f members low first count - suc first
      → eqb n (p % 65536) ≡ fills f fm low (own fm bytes from)
  unfolding fills size_as
  fills-member e i j = rw (e, i, j)

  pub fills-nothing : fm ≡ form.Nothing → false ≡ fills f fm low (own fm bytes from)
  unfolding fills
  fills-nothing e = rw e

-- every form that asks nothing of its bytes
abbrev free : List ℕ
free = 0 ∷ 2 ∷ 3 ∷ 4 ∷ 5 ∷ []

pub fills-other : (f : List ℕ) (fm : Form) (low : ℕ) (bs : List ℕ) → OneOf free (tag_of the_type fm) → true ≡ fills f fm low bs
unfolding fills
fills-other f form.Head low bs h = refl
fills-other f form.Null low bs h = absurd (miss free 1 tt h)
fills-other f form.Bool low bs h = refl
fills-other f (form.Number signed bits kind width) low bs h = refl
fills-other f form.Real low bs h = refl
fills-other f form.LongReal low bs h = refl
fills-other f (form.String most width) low bs h = absurd (miss free 6 tt h)
fills-other f (form.Enumeration first count) low bs h = absurd (miss free 7 tt h)
fills-other f form.Nothing low bs h = absurd (miss free 8 tt h)

-- ---- the node
and_no : (a b : Bool) → b ≡ false → a && b ≡ false
and_no true b e = e
and_no false b e = refl

own-by : (f : List ℕ) (c : Cell) (fm : Form) → fm ≡ form_of f c → SizedAs fm → (bytes : List ℕ) (from : ℕ) → Bytes bytes
    → readable f c (own fm bytes from) ≡ readable_by f fm (cell c.shape (node_as f fm 0 c (own fm bytes from))) (own fm bytes from)
unfolding node_read
own-by f c fm e p bytes from b =
    subst (λ (g : Form). SizedAs g → readable f c (own g bytes from) ≡ readable_by f g (cell c.shape (node_as f g 0 c (own g bytes from))) (own g bytes from)) (sym e)
    (λ q.
    let bs : List ℕ = own (form_of f c) bytes from in
    readable-by f c bs (bytes_take (size_as (form_of f c)) (drop from bytes) (bytes_drop from bytes b)) q (omega (arith, length-take (size_as (form_of f c)) (drop from bytes))))
    p

pub cell-placed : {f : List ℕ} {c : Cell} {fm : Form} → Formed f c fm → Placed f c.shape
cell-placed s = s.placed

module _ {f : List ℕ} {c : Cell} {fm : Form} (s : Formed f c fm) (bytes : List ℕ) (from : ℕ) (b : Bytes bytes) where
  abbrev bs : List ℕ
  bs = own fm bytes from

  abbrev there : Cell
  there = cell c.shape (node_as f fm 0 c bs)

  pub own_is : readable f c bs ≡ held f there && (eqb (length bs) (size_as fm) && fills f fm there.node.low bs)
  unfolding readable_by
  own_is = own-by f c fm s.form s.sized bytes from b

  pub too_short : {size : ℕ} → size ≡ size_as fm → length bytes - from < size → false ≡ readable f c bs
  too_short {size} e h =
      let l : length bs < size_as fm = omega (arith, length-take (size_as fm) (drop from bytes), length-drop from bytes) in
      let n : eqb (length bs) (size_as fm) ≡ false = ne_eqb (length bs) (size_as fm) (λ q. omega (arith, l, q)) in
      sym (own_is ∙ and_no (held f there) _ (rw n))

  module _ {read : Node} (k : read ≡ as_node (node_as f fm 0 (seen c.node.kind c.node.low) bs)) where
    stands-there : cell_of c.shape read ≡ there
    stands-there = ap (cell_of c.shape) (k ∙ ap as_node (read-seen f fm 0 c bs))

    pub not-held : {h : Bool} → h ≡ held f (cell_of c.shape read) → not h ≡ true → false ≡ readable f c bs
    not-held {h} e n = sym (own_is ∙ rw (sym (e ∙ ap (held f) stands-there) ∙ not-true h n))

    pub held-fills : {h r : Bool} → h ≡ held f (cell_of c.shape read) → not h ≡ false → from + size_as fm ≤ length bytes → r ≡ fills f fm read.value.low bs → r ≡ readable f c bs
    held-fills {h} {r} e n l z =
        let long : length bs ≡ size_as fm = omega (arith, length-take (size_as fm) (drop from bytes), length-drop from bytes) in
        z ∙ ap (λ d. fills f fm d.node.low bs) stands-there ∙ sym (own_is ∙ rw (sym (e ∙ ap (held f) stands-there) ∙ not-false h n, eq-eqb (length bs) (size_as fm) long))

pub own_room : (fm : Form) (from l : ℕ) {size : ℕ} → size ≡ size_as fm → from ≤ l → size ≤ l - from → from + size_as fm ≤ l
own_room fm from l e g h = omega (arith, e)

pub ruleset places = (rules, place-first)

pub ruleset strings = (rules, other-most, too_long, zeros-behind, zeros-room)

pub ruleset fillings = (rules, opened, null-room, string-room, member-room, fills-null, fills-string, fills-member, fills-nothing, fills-other)

pub ruleset readables = (rules, cell-placed, too_short, not-held, held-fills, own_room)
