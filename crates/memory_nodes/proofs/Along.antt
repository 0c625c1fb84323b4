-- The nodes of a tree gone through with their bytes, one by one. Assumes nothing.
use mathlib.Core.Path.{◌≡◌, refl, ap, sym, subst, ◌∙◌}
use mathlib.Core.Bool.{Bool, true, false, ◌&&◌}
use mathlib.Core.List.{List, [], ◌∷◌, ◌++◌}
use Prim.Native.Nat.{ℕ, suc, ◌+◌, ◌-◌, ◌*◌, ◌%◌, ◌≤◌, ◌<◌}
use native.Mathlib.Omega.{arith}
use lib.Dec.{eqb, leb}
use lib.ListN.{length, get_or, take, drop, drop_of_length-le}
use lib.Seq.{drop-drop, drop-cons}
use mir.Syntax.{w8}
use mir.Val.{Fits}
use borrow.Author.Rules.{rules}
use borrow.Author.Tests.{eq-eqb, ne_eqb, leb-true, leb-false}
use Rattle.laws.specs.Cases.{never, both}
use Rattle.definition.specs.Base.{unused}
use Rattle.memory_definition.specs.declared.form.Form.{Form}
use Rattle.memory_definition.specs.declared.form.Form.TheVariants as form
use Rattle.memory_definition.specs.Cells.{Cell, cell}
use Rattle.memory_definition.specs.Numbers.{number_from, length_from, character_bytes}
use Rattle.memory_definition.specs.Forms.{form_of, size_as, node_as, text_as, text_read, held, readable}
use Rattle.memory_definition.specs.Memory.{size, readable_all, text_all}
use Rattle.memory_laws.specs.Bytes.{Bytes, bytes-each}
use Rattle.memory_laws.specs.InWords.{cell_in, cells_from}
use Rattle.memory_laws.specs.Same.{SizedAs}
use Rattle.memory_laws.specs.Placed.{Placed, PlacedAll, placed-form}
use Rattle.memory_nodes.specs.Readable.{string_fills, fills}
use Rattle.memory_nodes.specs.Reading.{own, Few, Formed}
use Rattle.memory_nodes.specs.All.{Written}
use Rattle.memory_nodes.proofs.Filling.{own_is, too_short}

-- b says whether the bytes from a place on are those that the nodes are written as
pub record Along (f bytes : List ℕ) (cs : List Cell) (from : ℕ) (b : Bool) : Type 0 where
  pub placed : PlacedAll f cs
  pub same : readable_all f cs (drop from bytes) ≡ b
  pub inside : from ≤ length bytes
  pub known : Bytes bytes

module _ {f : List ℕ} {cs : List Cell} (bytes : List ℕ) (k : (i : ℕ) → Fits w8 (get_or bytes i 0)) where
  start : {b : Bool} → PlacedAll f cs → readable_all f cs bytes ≡ b → Along f bytes cs 0 b
  start p e = record { placed = p; same = e; inside = omega arith; known = bytes-each bytes (λ i l. (k i).fits) }

  pub along-first : PlacedAll f cs → Along f bytes cs 0 (readable_all f cs bytes)
  along-first p = start p refl

  pub along-ready : Written f cs bytes → Along f bytes cs 0 true
  along-ready r = start r.placed r.read

-- ---- one node more
pub cells-next : (tree shapes : List ℕ) (at left : ℕ) → 0 < left → cells_from tree shapes at left ≡ cell_in tree shapes at ∷ cells_from tree shapes (at + 6) (left - 1)
unfolding cells_from
cells-next tree shapes at left h = let e : left ≡ suc (left - 1) = omega arith in ap (cells_from tree shapes at) e

pub cells-none : (tree shapes : List ℕ) (at left : ℕ) → left ≤ 0 → cells_from tree shapes at left ≡ []
unfolding cells_from
cells-none tree shapes at left h = let e : left ≡ 0 = omega arith in ap (cells_from tree shapes at) e

module _ (f : List ℕ) (c : Cell) (cs : List Cell) (bytes : List ℕ) (from : ℕ) {fm : Form} (e : fm ≡ form_of f c) where
  pub readable-next : readable_all f (c ∷ cs) (drop from bytes) ≡ readable f c (own fm bytes from) && readable_all f cs (drop (from + size_as fm) bytes)
  unfolding readable_all size
  readable-next = rw (e, ← drop-drop (size_as (form_of f c)) from bytes)

  pub text-next : text_all f (c ∷ cs) (drop from bytes) ≡ text_as fm (own fm bytes from) ++ text_all f cs (drop (from + size_as fm) bytes)
  unfolding text_all size text_read
  text-next = rw (e, ← drop-drop (size_as (form_of f c)) from bytes)

-- no node is left: no byte may be
none_left : (f bytes : List ℕ) (from : ℕ) → from ≤ length bytes → eqb from (length bytes) ≡ readable_all f [] (drop from bytes)
unfolding readable_all
none_left f bytes from h = go (leb (length bytes) from) refl
  where
    go : (t : Bool) → leb (length bytes) from ≡ t → eqb from (length bytes) ≡ readable_all f [] (drop from bytes)
    go true q =
        let l : length bytes ≤ from = leb-true (length bytes) from q in
        rw (eq-eqb from (length bytes) (omega arith), drop_of_length-le bytes l)
    go false q =
        let l : from < length bytes = leb-false (length bytes) from q in
        rw (ne_eqb from (length bytes) (λ z. omega (arith, l, z)), drop-cons bytes from 0 l)

fills-few : (f : List ℕ) (fm : Form) (low : ℕ) (bs : List ℕ) → fills f fm low bs ≡ true → Few fm bs
unfolding fills string_fills
fills-few f form.Head low bs e = tt
fills-few f form.Null low bs e = tt
fills-few f form.Bool low bs e = tt
fills-few f (form.Number signed bits kind width) low bs e = tt
fills-few f form.Real low bs e = tt
fills-few f form.LongReal low bs e = tt
fills-few f (form.String most width) low bs e =
    let many : ℕ = length_from bs in
    let last : Bool = unused (drop (4 + character_bytes width * many) bs) in
    leb-true many most (both (leb many most) last (both (eqb (number_from (take 2 bs)) (most % 65536)) (leb many most && last) e).1).0
fills-few f (form.Enumeration first count) low bs e = tt
fills-few f form.Nothing low bs e = tt

module _ {f bytes : List ℕ} {cs : List Cell} {from : ℕ} {b : Bool} (x : Along f bytes cs from b) where
  module _ {c : Cell} {rest : List Cell} (n : cs ≡ c ∷ rest) where
    both-placed : Placed f c.shape × PlacedAll f rest
    both-placed = subst (PlacedAll f) n x.placed

    module _ {fm : Form} (e : fm ≡ form_of f c) where
      pub along-formed : Formed f c fm
      along-formed = record { form = e; sized = subst SizedAs (sym e) (placed-form c both-placed.0); placed = both-placed.0 }

      pub along-sized : SizedAs fm
      along-sized = along-formed.sized

      pub next-same : readable f c (own fm bytes from) && readable_all f rest (drop (from + size_as fm) bytes) ≡ b
      next-same = sym (ap (λ l. readable_all f l (drop from bytes)) n ∙ readable-next f c rest bytes from e) ∙ x.same

      own-long : readable f c (own fm bytes from) ≡ true → from + size_as fm ≤ length bytes
      own-long r = go (leb (size_as fm) (length bytes - from)) refl
        where
          go : (t : Bool) → leb (size_as fm) (length bytes - from) ≡ t → from + size_as fm ≤ length bytes
          go true q = omega (arith, leb-true (size_as fm) (length bytes - from) q, x.inside)
          go false q = never (too_short along-formed bytes from x.known refl (leb-false (size_as fm) (length bytes - from) q) ∙ r)

      own-few : readable f c (own fm bytes from) ≡ true → Few fm (own fm bytes from)
      own-few r =
          let bs : List ℕ = own fm bytes from in
          let d : Cell = cell c.shape (node_as f fm 0 c bs) in
          let all : Bool = eqb (length bs) (size_as fm) in
          let rest : Bool = fills f fm d.node.low bs in
          fills-few f fm d.node.low bs (both all rest (both (held f d) (all && rest) (sym (own_is along-formed bytes from x.known) ∙ r)).1).1

      further : readable f c (own fm bytes from) ≡ true → {k : ℕ} → k ≡ size_as fm → Along f bytes rest (from + k) b
      further r {k} q =
          record {
            placed = both-placed.1;
            same = rw q (sym (rw r) ∙ next-same);
            inside = omega (arith, own-long r, q);
            known = x.known;
          }

      module _ {r : Bool} (i : r ≡ readable f c (own fm bytes from)) where
        pub along-more : r ≡ true → {k : ℕ} → k ≡ size_as fm → Along f bytes rest (from + k) b
        along-more y q = further (sym i ∙ y) q

        pub along-room : r ≡ true → from + size_as fm ≤ length bytes
        along-room y = own-long (sym i ∙ y)

        pub along-stops : r ≡ false → false ≡ b
        along-stops y = sym (rw (sym i ∙ y)) ∙ next-same

  pub along-ends : cs ≡ [] → eqb from (length bytes) ≡ b
  along-ends n = none_left f bytes from x.inside ∙ ap (λ l. readable_all f l (drop from bytes)) (sym n) ∙ x.same

pub ruleset all = (rules, along-first, along-formed, along-more, along-room, along-stops, along-ends)

-- ---- where the bytes are those that the nodes are written as
module _ {f bytes : List ℕ} {cs : List Cell} {from : ℕ} (x : Along f bytes cs from true) {c : Cell} {rest : List Cell} (n : cs ≡ c ∷ rest) {fm : Form} (e : fm ≡ form_of f c) where
  reads-own : readable f c (own fm bytes from) ≡ true
  reads-own = (both (readable f c (own fm bytes from)) _ (next-same x n e)).0

  pub read_more : {k : ℕ} → k ≡ size_as fm → Along f bytes rest (from + k) true
  read_more q = further x n e reads-own q

  pub read-room : from + size_as fm ≤ length bytes
  read-room = own-long x n e reads-own

  pub read-few : Few fm (own fm bytes from)
  read-few = own-few x n e reads-own
