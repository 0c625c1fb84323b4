-- Cells beside a tree, node by node: the laws for layout.rt. Assumes nothing.
use mathlib.Core.Path.{◌≡◌, refl, ap, sym, ◌∙◌}
use mathlib.Core.List.{List, ◌∷◌, ◌++◌, append_assoc, append-nil}
use Prim.Native.Nat.{ℕ, zero, suc, ◌+◌, ◌-◌, ◌*◌, ◌≤◌, ◌<◌}
use native.Mathlib.Omega.{arith}
use native.Mathlib.Nat.{add-zero, zero-add, suc-add}
use native.Mathlib.Numerals.{add-one}
use lib.ListN.{length, get_or}
use borrow.Author.Rules.{rules}
use Rattle.definition.specs.declared.records.Shape.{Shape}
use Rattle.definition.specs.declared.records.Place.{Place}
use Rattle.definition.specs.Tree.{Node, Tree, Trees, node, tnil, tcons, head, parts, many, nodes, nodes_in, flatten, flatten_all}
use Rattle.definition.specs.Sheet.{parts_of}
use Rattle.laws.specs.Whole.{Good, Goods, flatten-length, nodes-some}
use Rattle.tree.specs.Words.{Stand}
use Rattle.tree.proofs.Fields.{one-stands, others-stand, parts-stand}
use Rattle.memory_definition.specs.Cells.{Cell, cells, cells_in, part_place}
use Rattle.memory_laws.specs.InWords.{node_in, cell_in, cells_from}
use Rattle.memory_layout.specs.Words.{Before, PutNode}
use Rattle.memory_layout.specs.Laid.{Whole, LaidTree, Laid}
use Rattle.memory_layout.proofs.Putting.{word-there}

-- ---- cells in words
-- those of so many nodes, and then those of so many more
pub cells-apart : (tree shapes : List ℕ) (k l at : ℕ) → cells_from tree shapes at (k + l) ≡ cells_from tree shapes at k ++ cells_from tree shapes (at + 6 * k) l
unfolding cells_from
cells-apart tree shapes zero l at = let e : at + 6 * 0 ≡ at = omega arith in rw (zero-add, e)
cells-apart tree shapes (suc k) l at =
    let e : at + 6 + 6 * k ≡ at + 6 * suc k = omega arith in
    rw suc-add (ap (λ (x : List Cell). cell_in tree shapes at ∷ x) (cells-apart tree shapes k l (at + 6) ∙ rw e))

-- they depend on their own words only
pub cells_same : (tree : List ℕ) {to : ℕ} {old new : List ℕ} → Before to old new → (k at : ℕ) → at + 6 * k ≤ to → cells_from tree old at k ≡ cells_from tree new at k
unfolding cells_from
cells_same tree b zero at h = refl
cells_same tree {to} {old} b (suc k) at h =
    rw (
      b.same at (omega arith),
      b.same (at + 1) (omega arith),
      b.same (at + 2) (omega arith),
      b.same (at + 3) (omega arith),
      b.same (at + 4) (omega arith),
    )
    (ap (λ (x : List Cell). cell_in tree old at ∷ x) (cells_same tree b k (at + 6) (omega arith)))

-- ---- a node
node-is : (s : List ℕ) (at : ℕ) (h : Node) (ts : Trees) (e : ℕ) → Stand s at (flatten (node h ts)) e → node_in s at ≡ h
unfolding flatten
node-is s at h ts e x =
    let n : get_or s at 0 ≡ h.name = rw add-zero at (word-there x 0) in
    rw (n, word-there x 1, word-there x 2, word-there x 3, word-there x 4, word-there x 5)

name-is : (s : List ℕ) (at : ℕ) (t : Tree) (e : ℕ) → Stand s at (flatten t) e → get_or s at 0 ≡ (head t).name
unfolding flatten head
name-is s at (node h ts) e x = rw add-zero at (word-there x 0)

-- ---- so far: the parts from k on, and where they begin
pub record Rest (f tree : List ℕ) (at : ℕ) (place : Place) (shapes : List ℕ) (parts to k : ℕ) (t : Tree) (e : ℕ) : Type 0 where
  pub rest : Trees
  pub done : ℕ
  pub good : Goods rest
  pub left : k + many rest ≡ parts
  pub stands : Stand tree to (flatten_all rest) e
  pub begins : to ≡ at + 6 * suc done
  pub total : nodes t ≡ suc done + nodes_in rest
  pub is : cells f place t ≡ cells_from tree shapes at (suc done) ++ cells_in f place k rest

pub record SoFar (f tree : List ℕ) (at : ℕ) (place : Place) (old shapes : List ℕ) (parts to k : ℕ) : Type 0 where
  pub kept : Before at old shapes
  pub says : (t : Tree) (e : ℕ) → Good t → Stand tree at (flatten t) e → Rest f tree at place shapes parts to k t e

before_more : {at to : ℕ} {old mid new : List ℕ} → Before at old mid → Before to mid new → at ≤ to → Before at old new
before_more b c h = record { long = c.long ∙ b.long; same = λ i n. c.same i (omega arith) ∙ b.same i n }

-- the node itself
module _ (f tree : List ℕ) (at : ℕ) (place : Place) {old shapes : List ℕ} {count : ℕ}
    (p : PutNode tree place.shape at old count shapes) where
  rest-first : (t : Tree) (e : ℕ) → Good t → Stand tree at (flatten t) e → Rest f tree at place shapes count (at + 6) 0 t e
  unfolding Good cells cells_from nodes parts
  rest-first (node h ts) e g x =
      let n = node-is tree at h ts e x in
      record {
        rest = ts;
        done = 0;
        good = g.2;
        left = rw zero-add (g.1 ∙ sym (p.many ∙ ap (λ (m : Node). parts_of m.kind m.low) n));
        stands = parts-stand tree at (node h ts) e x;
        begins = omega arith;
        total = omega arith;
        is = rw (p.put.is, n);
      }

  pub so-far-none : SoFar f tree at place shapes shapes count (at + 6) 0
  so-far-none = record { kept = record { long = refl; same = λ i n. refl }; says = rest-first }

-- ---- the next part, and those behind it
record Part (f tree : List ℕ) (at : ℕ) (place : Place) (shapes : List ℕ) (parts to k : ℕ) (t : Tree) (e : ℕ) : Type 0 where
  part : Tree
  others : Trees
  done : ℕ
  good : Good part
  goods : Goods others
  left : suc k + many others ≡ parts
  stands : Stand tree to (flatten part) (to + 6 * nodes part)
  follow : Stand tree (to + 6 * nodes part) (flatten_all others) e
  begins : to ≡ at + 6 * suc done
  total : nodes t ≡ suc done + (nodes part + nodes_in others)
  is : cells f place t ≡ cells_from tree shapes at (suc done) ++ (cells f (part_place f place k (get_or tree to 0)) part ++ cells_in f place (suc k) others)

module _ {f tree : List ℕ} {at : ℕ} {place : Place} {shapes : List ℕ} {parts to k : ℕ} {t : Tree} {e : ℕ} (r : Rest f tree at place shapes parts to k t e) where
  next-part : k < parts → Part f tree at place shapes parts to k t e
  unfolding Good many nodes cells
  next-part l = go r.rest r.good r.left r.stands r.total r.is
    where
      go : (ts : Trees) → Goods ts → k + many ts ≡ parts → Stand tree to (flatten_all ts) e → nodes t ≡ suc r.done + nodes_in ts
          → cells f place t ≡ cells_from tree shapes at (suc r.done) ++ cells_in f place k ts → Part f tree at place shapes parts to k t e
      go tnil g n x m i = absurd (omega arith)
      go (tcons u us) g n x m i =
          let y = one-stands tree to u us e x in
          record {
            part = u;
            others = us;
            done = r.done;
            good = g.0;
            goods = g.1;
            left = omega arith;
            stands = y;
            follow = others-stand tree to u us e x;
            begins = r.begins;
            total = m;
            is = rw (name-is tree to u _ y) i;
          }

  -- behind the last part
  rest-none : parts ≤ k → (to ≡ e) × (cells_from tree shapes at (nodes t) ≡ cells f place t)
  unfolding many nodes cells flatten
  rest-none l = go r.rest r.left r.stands r.total r.is
    where
      go : (ts : Trees) → k + many ts ≡ parts → Stand tree to (flatten_all ts) e → nodes t ≡ suc r.done + nodes_in ts
          → cells f place t ≡ cells_from tree shapes at (suc r.done) ++ cells_in f place k ts → (to ≡ e) × (cells_from tree shapes at (nodes t) ≡ cells f place t)
      go tnil n x m i =
          let z : nodes t ≡ suc r.done = omega arith in
          (omega (arith, x.long), rw z (sym (i ∙ append-nil (cells_from tree shapes at (suc r.done)))))
      go (tcons u us) n x m i = absurd (omega arith)

-- the parts behind the one that was laid out
module _ {f tree : List ℕ} {at : ℕ} {place : Place} {shapes : List ℕ} {parts to k : ℕ} {t : Tree} {e : ℕ} (p : Part f tree at place shapes parts to k t e)
    {part : Place} (q : part ≡ part_place f place k (get_or tree to 0)) {end : ℕ} {new : List ℕ} (x : LaidTree f tree to part shapes end new) where
  part_says : (end ≡ to + 6 * nodes p.part) × (cells_from tree new to (nodes p.part) ≡ cells f part p.part)
  part_says = x.laid.says p.part (to + 6 * nodes p.part) p.good p.stands

  part-cells : cells_from tree shapes at (suc p.done) ++ cells f part p.part ≡ cells_from tree new at (suc p.done + nodes p.part)
  part-cells =
      rw (cells_same tree x.kept (suc p.done) at (omega (arith, p.begins)), ← part_says.1, p.begins)
      (sym (cells-apart tree new (suc p.done) (nodes p.part) at))

  rest_more : Rest f tree at place new parts end (k + 1) t e
  rest_more =
      let n = part_says.0 in
      let d : suc p.done + nodes p.part ≡ suc (p.done + nodes p.part) = omega arith in
      record {
        rest = p.others;
        done = p.done + nodes p.part;
        good = p.goods;
        left = omega (arith, p.left);
        stands = rw n p.follow;
        begins = omega (arith, p.begins);
        total = omega (arith, p.total);
        is =
            rw add-one
            (rw (← q) at p.is
            ∙ sym (append_assoc (cells_from tree shapes at (suc p.done)) (cells f part p.part) (cells_in f place (suc k) p.others))
            ∙ ap (λ (x : List Cell). x ++ cells_in f place (suc k) p.others) (part-cells ∙ ap (cells_from tree new at) d));
      }

-- ---- a whole tree's room
pub whole-inside : {s : List ℕ} {at room : ℕ} → Whole s at room → at + 6 ≤ length s
whole-inside w = omega (arith, w.stands.long, w.stands.fits, flatten-length w.tree, nodes-some w.tree)

pub whole_room : {s : List ℕ} {at room : ℕ} → Whole s at room → at + 6 ≤ room
whole_room w = omega (arith, w.stands.long, w.fits, flatten-length w.tree, nodes-some w.tree)

-- behind a shape that was put
pub whole-kept : {s : List ℕ} {at : ℕ} {old : List ℕ} → Whole s at (length old) → {sh : Shape} {count : ℕ} {new : List ℕ} → PutNode s sh at old count new → Whole s at (length new)
whole-kept w p = rw p.put.kept.long w

-- ---- the loop over the parts
module _ {f tree : List ℕ} {at : ℕ} {place : Place} {old shapes : List ℕ} {parts to k : ℕ} (s : SoFar f tree at place old shapes parts to k) where
  module _ (w : Whole tree at (length old)) (l : k < parts) where
    the-part : Part f tree at place shapes parts to k w.tree w.end
    the-part = next-part (s.says w.tree w.end w.good w.stands) l

    pub part-whole : Whole tree to (length shapes)
    part-whole =
        let p = the-part in
        record {
          tree = p.part;
          end = to + 6 * nodes p.part;
          good = p.good;
          stands = p.stands;
          fits = omega (arith, p.follow.long, w.fits, s.kept.long);
        }

    pub part-inside : to < length tree
    part-inside = omega (arith, whole-inside part-whole)

    pub part_falls : {n : ℕ} → length tree - at ≡ n → length tree - to < n
    part_falls e = omega (arith, the-part.begins, whole-inside part-whole)

    pub so_far_more : {part : Place} → part ≡ part_place f place k (get_or tree to 0) → {end : ℕ} {new : List ℕ} → LaidTree f tree to part shapes end new
        → SoFar f tree at place old new parts end (k + 1)
    so_far_more q x =
        record {
          kept = before_more s.kept x.kept (omega (arith, the-part.begins));
          says = λ t e g y. rest_more (next-part (s.says t e g y) l) q x;
        }

  pub so-far-all : {first : List ℕ} → PutNode tree place.shape at first parts old → parts ≤ k → LaidTree f tree at place first to shapes
  so-far-all p l =
      record {
        kept = before_more p.put.kept s.kept (omega arith);
        laid = record { says = λ t e g y. rest-none (s.says t e g y) l };
      }

-- ---- at the front
pub laid-front : {f tree : List ℕ} {place : Place} {old : List ℕ} {end : ℕ} {new : List ℕ} → LaidTree f tree 0 place old end new → Laid f tree place new
laid-front x = record { says = λ t e g y. (x.laid.says t e g y).1 }

pub ruleset laws = (rules, whole-inside, whole_room, whole-kept, so-far-none, part-whole, part-inside, part_falls, so_far_more, so-far-all, laid-front)
