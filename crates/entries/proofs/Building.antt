-- Arrays and members: the rest of the returns of entries.rt. Assumes nothing.
use borrow.Enum.Refused.{opened}
use mathlib.Core.Path.{◌≡◌, refl, ap, sym, ◌∙◌}
use mathlib.Core.Bool.{Bool, true, false}
use mathlib.Core.Logic.{inl, inr}
use mathlib.Core.List.{List, [], ◌∷◌, ◌++◌, append-nil}
use Prim.Native.Nat.{ℕ, zero, suc, ◌+◌, ◌-◌, ◌*◌, ◌^◌, ◌≤◌, ◌<◌}
use native.Mathlib.Omega.{arith}
use types.Run.{OneOf, miss}
use denote.Enum.Declared.{tag_of}
use mir.Syntax.{w64}
use mir.Val.{Fits}
use borrow.Author.Rules.{rules}
use borrow.Author.Tests.{le-leb}
use borrow.Rule.Slice.PartMut.{put_mid}
use lib.Dec.{leb}
use lib.ListN.{length, take, drop, length-append, length-drop, drop_of_length-le}
use lib.Seq.{take_all, take_at, drop_at, length-take-le}
use Rattle.definition.specs.contracts.records.Entry as entry-tags
use Rattle.definition.specs.declared.records.Place.{Place}
use Rattle.definition.specs.declared.records.Entry.{Entry}
use Rattle.definition.specs.declared.records.Entry.TheVariants as entry
use Rattle.definition.specs.Base.{choose, on_link}
use Rattle.definition.specs.Layout.{count, entries}
use Rattle.definition.specs.Records.{entry_at, entry_name}
use Rattle.definition.specs.Syntax.{Init, Inits, init_from, init_at, inits_at}
use Rattle.definition.specs.Tree.{Tree, Trees, node, tcons, head, parts, many, nodes, nodes_in, flatten, structure_tree, array_tree, named, rest, most_nodes}
use Rattle.definition.specs.Ask.{result_of, ok, none, large, Outcome, Ask, done, ◌>>=◌, give, nothing, formed, gathered}
use Rattle.definition.specs.Iec.{filled, assigned}
use Rattle.definition.specs.Places.{leaf_place, field_place}
use Rattle.definition.specs.Parts.{on_fields, element_defaults, array_by}
use Rattle.definition.specs.Defaults as Defaults
use Rattle.definition.specs.Starting.{default_of, array_of}
use Rattle.definition.specs.Starting as Defs
use Rattle.definition.specs.Resolve.{Memo}
use Rattle.definition.specs.Peek.{got, peek}
use Rattle.definition.specs.Depth.{deepest, entry_depth}
use Rattle.laws.specs.Accepted.{Accepted}
use Rattle.laws.specs.Decoded.{init-is, inits-none, inits-next}
use Rattle.laws.specs.Depths.{deepest-at, entry-depth-least}
use Rattle.laws.specs.Gathers.{Gathered, gathered-parts}
use Rattle.laws.specs.Steps.{peek-done, peek-give, peek-nothing, peek-ok, peek-none}
use Rattle.laws.specs.Whole.{Good, Goods}
use Rattle.places.specs.Inside.{PlaceIn}
use Rattle.tree.specs.Words.{Stand, WroteNode}
use Rattle.tree.specs.Node.{head_words}
use Rattle.tree.specs.Part.{place}
use Rattle.tree.proofs.Fields.{found-place, find-there, field_at, place_none, place-named, Named}
use Rattle.tree.proofs.Stands.{stand-kept}
use Rattle.tree.proofs.Standing.{wrote-so-is}
use Rattle.build.specs.declared.built.Unbuilt.{Unbuilt}
use Rattle.build.specs.declared.built.Unbuilt.TheVariants as unbuilt
use Rattle.gather.specs.declared.answers.Listed.{Listed}
use Rattle.gather.specs.declared.copies.Target.{Target}
use Rattle.gather.specs.Answers.{Listing, Builds}
use Rattle.build.specs.Built.{Built, Memory, Ready}
use Rattle.gather.specs.Room.{RoomThere, shapes_deep, rooms, Structure, Current, whole}
use Rattle.gather.specs.Leaves.{simple_of}
use Rattle.gather.proofs.Single.{small-simple, leaf-built, push-fails, tree-as}
use Rattle.gather.proofs.Gathering.{never-ok}
use Rattle.gather.proofs.Members.{head_of, structure-node}
use Rattle.build.specs.Leaves.{PutsLeaf}
use Rattle.definition.specs.declared.records.Constant.{Constant}
use Rattle.definition.specs.Scalar.{as_tree}
use Rattle.gather.specs.Elements.{ElementDefaults}
use Rattle.gather.specs.Copies.{Taken, Takes, CopiesStructure, FillsRest, Heads, SetThere, Sets, Targets, Finds, PutsMember}
use Rattle.entries.specs.Entries.{run_depth, RunThere, ValuesThere, FieldsThere, ValueThere, ExpandsAll, BuildsArray, values_of, FillsArray, FillsValues, Applies, member_step, SetsMember, BuildsMember, BuildsStructure}
use Rattle.gather.proofs.Onward.{take_less, lists-as, builds-same, lists-same, peek-stops}
use Rattle.build.proofs.Peeks.{some-of, none-of}
use Rattle.gather.proofs.Copying.{rest-zero}
use Rattle.entries.proofs.Entering.{lower, current-less, structure-init, structure-depth, array-init, array-depth}
use Rattle.entries.proofs.Nesting.{fields-some, fields-none}
use Rattle.build.proofs.leaves.Laws.{node_kept}
use Rattle.laws.specs.Binds.{then-assoc}
use Rattle.laws.specs.Gathers.{small-structure}
use mathlib.Core.Path.{fun_ext}
use Rattle.definition.specs.Layout.{shapes}
use Rattle.definition.specs.Depth.{shape_depth}
use Rattle.laws.specs.Depths.{shape-depth-least}
use Rattle.places.specs.Inside.{element-shape}
use Rattle.places.specs.Shapes.{on-kind}
use Rattle.tree.specs.declared.extent.Span.{Span}
use Rattle.tree.specs.Part.{span, find_of}
use Rattle.tree.proofs.Fields.{goods-parted}
use Rattle.tree_changes.proofs.Splicing.{part-stands}
use Rattle.laws.specs.Whole.{nodes_in-join, flatten-length}
use Rattle.std.specs.Prelude.{Err, None, Ok, Option, Some}
use Rattle.std.specs.Prelude as std
use Rattle.std.specs.Option.{ok_or}

-- ---- `array`
-- a part that was lent, and the whole with it back
part-rest : (a : ℕ) (s : List ℕ) → take (length s - a) (drop a s) ≡ drop a s
part-rest a s = take_all (length s - a) (drop a s) (simp length-drop (omega arith))

part-back : (a : ℕ) (s ys : List ℕ) → put_mid a (length s - a) s ys ≡ take a s ++ ys
part-back a s ys = rw (drop_of_length-le (drop a s) {i = length s - a} (simp length-drop (omega arith)), append-nil)

-- refusal 8 of the whole, of its values under the head
formed-is : (ts : Trees) → formed (array_tree ts) ≡ gathered 0 ts >>= λ us. give (array_tree us)
unfolding formed gathered array_tree Rattle.definition.specs.Tree.headed nodes ◌>>=◌ Rattle.definition.specs.Ask.bind give
formed-is ts = let z : 0 + nodes_in ts ≡ nodes_in ts = omega arith in rw z (go (leb (suc (nodes_in ts)) most_nodes))
  where
    go : (b : Bool) → choose b (λ u. done (ok (array_tree ts))) (λ u. done large)
        ≡ Rattle.definition.specs.Ask.bind (choose b (λ u. done (ok ts)) (λ u. done large)) (Rattle.definition.specs.Ask.on_ok (λ us. give (array_tree us)))
    go true = refl
    go false = refl

array-is : (f : List ℕ) (p : Place) (first many : ℕ)
    → array_of f p first many ≡ (element_defaults f (default_of f) p >>= λ ds. values_of f p first many ds) >>= λ ts. give (array_tree ts)
unfolding Defaults.array_of array_by
array-is f p first many =
    ap (λ go. element_defaults f (default_of f) p >>= go)
    (fun_ext (λ ds. ap (λ go. Defs.expand_all f (inits_at f first many) (leaf_place f p) ds 0 0 >>= go) (fun_ext (λ vs. formed-is (filled ds vs)))
    ∙ sym (then-assoc (Defs.expand_all f (inits_at f first many) (leaf_place f p) ds 0 0) (λ vs. gathered 0 (filled ds vs)) (λ ts. give (array_tree ts)))))
    ∙ sym (then-assoc (element_defaults f (default_of f) p) (λ ds. values_of f p first many ds) (λ ts. give (array_tree ts)))

module _ (f known store : List ℕ) (p : Place) (first many : ℕ) {old : List ℕ} (at : ℕ) {x : Option ℕ} {mid : List ℕ} (u : WroteNode old at (head_words 13 0) x mid) where
  -- what `?` hands on: there is room for the head
  pub array-short : {a : std.Result ℕ Unbuilt} → a ≡ ok_or x unbuilt.None → {why : Unbuilt} → a ≡ Err why → {r : Built} → r ≡ Err why → BuildsArray f known store p first many old at r mid
  array-short z i q =
      record {
        says = λ M k room.
            let h : at + 6 ≤ length old = omega arith in
            let v = rw (le-leb (at + 6) (length old) h) at u.says in
            let w = (none-of z i q).0 in
            let n : ◌≡◌ {A = ℕ} 0 1 = cc in
            absurd (omega arith);
      }

  module _ {from : ℕ} (q : x ≡ Some from) (g : length mid ≡ length old) {r : Listing} {part : List ℕ}
      (w : FillsArray f known store p first many (take (length mid - from) (drop from mid)) r part)
      {r' : Built} {new : List ℕ} (z : Heads r at from (put_mid from (length mid - from) mid part) r' new) where
    from_is : from ≡ at + 6
    from_is = (wrote-so-is (leb (at + 6) (length old)) u q).1

    from-inside : from ≤ length mid
    from-inside = omega (arith, from_is, g, borrow.Author.Tests.leb-true (at + 6) (length old) (wrote-so-is (leb (at + 6) (length old)) u q).0)

    pub array-built : BuildsArray f known store p first many old at r' new
    array-built =
        record {
          says = λ M k room.
              let a = part-rest from mid in
              let b = part-back from mid part in
              let c = length-take-le from mid from-inside in
              let l : 12282 + 24576 * (run_depth f first many + shapes_deep f) ≤ length (take (length mid - from) (drop from mid)) = rw a (simp length-drop (omega (arith, from_is))) in
              let v = w.says M k l in
              let d : drop from (put_mid from (length mid - from) mid part) ≡ part = ap (drop from) b ∙ drop_at (take from mid) part from c in
              let e : from ≤ length (put_mid from (length mid - from) mid part) = rw b (simp length-append (omega arith)) in
              let t : take at (put_mid from (length mid - from) mid part) ≡ take at mid =
              take_less (put_mid from (length mid - from) mid part) mid at from (omega (arith, from_is)) (ap (take from) b ∙ take_at (take from mid) part from c) in
              let m = element_defaults f (default_of f) p >>= λ ds. values_of f p first many ds in
              record {
                kept = z.kept ∙ t ∙ node_kept u;
                builds =
                    builds-same M ((element_defaults f (default_of f) p >>= λ ds. values_of f p first many ds) >>= λ ts. give (array_tree ts)) (array_of f p first many) at r' new
                    (ap (peek M) (array-is f p first many))
                    (z.says M (element_defaults f (default_of f) p >>= λ ds. values_of f p first many ds) from_is e (rw d v));
              };
        }

-- where the rest begins
module _ {old : List ℕ} {at : ℕ} {ws : List ℕ} {x : Option ℕ} {mid : List ℕ} (u : WroteNode old at ws x mid) {from : ℕ} (q : x ≡ Some from) where
  pub rest-begins : length mid ≡ length old → from ≤ length mid
  rest-begins g =
      let z = wrote-so-is (leb (at + 6) (length old)) u q in
      omega (arith, z.1, borrow.Author.Tests.leb-true (at + 6) (length old) z.0)

  pub rest-scaled : length old * 4 < 2 ^ 63 → Fits w64 (from * 4)
  rest-scaled g =
      let z = wrote-so-is (leb (at + 6) (length old)) u q in
      record { fits = omega (arith, z.1, borrow.Author.Tests.leb-true (at + 6) (length old) z.0) }

-- ---- `fill`
-- only an array has element defaults, and its element has a shape
elements-deep : (M : Memo) (f : List ℕ) → Accepted f → (p : Place) → PlaceIn f p → (ts : Trees) → peek M (element_defaults f (default_of f) p) ≡ got (ok ts) → 1 ≤ shapes_deep f
unfolding element_defaults shapes_deep
elements-deep M f a p i ts =
    on-kind (λ m. peek M m ≡ got (ok ts) → 1 ≤ deepest (shape_depth f) 0 (count f shapes)) p.shape _ _ _ _ _ _ _ (λ a b q. absurd (never-ok M ts q)) (λ a b c d e q. absurd (never-ok M ts q))
    (λ a b e q. absurd (never-ok M ts q))
    (λ s b c e q. let h = element-shape i e in omega (arith, shape-depth-least f a s h, deepest-at (shape_depth f) 0 (count f shapes) s (omega arith) (omega arith)))
    (λ n e q. absurd (never-ok M ts q)) (λ n e q. absurd (never-ok M ts q)) (λ q. absurd (never-ok M ts q))

module _ (f known store : List ℕ) (p : Place) (first many : ℕ) (old : List ℕ) {mid : List ℕ} where
  -- what `?` hands on
  pub fill_fails : {u : Unbuilt} → ElementDefaults f known store p old 0 (Err u) mid → {r : Listing} → r ≡ Err u → FillsArray f known store p first many old r mid
  fill_fails {u} d q =
      rw q (record { says = λ M k room. peek-stops M (element_defaults f (default_of f) p) (λ ds. values_of f p first many ds) u (d.says M k (omega arith)).lists })

  module _ {d : Listing} (u : ElementDefaults f known store p old 0 d mid) (gv : Accepted f) (pin : PlaceIn f p) {front : Listed} (q : d ≡ Ok front) (g : length mid ≡ length old) {r : Listing} {new : List ℕ}
      (w : FillsValues f known store p first many front.made mid front.end r new) where
    pub fill-filled : FillsArray f known store p first many old r new
    fill-filled =
        record {
          says = λ M k room.
              let t = lists-as M (element_defaults f (default_of f) p) whole 0 mid q (u.says M k (omega arith)).lists in
              lists-same M (values_of f p first many t.trees) (element_defaults f (default_of f) p >>= λ ds. values_of f p first many ds) whole 0 r new
              (peek-ok M (element_defaults f (default_of f) p) (λ ds. values_of f p first many ds) t.trees t.is)
              (w.says M k t.trees t.stands t.small (omega (arith, t.counts)) (elements-deep M f gv p pin t.trees t.is) (omega (arith, t.ends, t.small.room)));
        }

-- ---- `fill_values`
module _ (f known store : List ℕ) (p : Place) (first many places : ℕ) (old : List ℕ) (end : ℕ) {leaf : Place} (q : leaf ≡ leaf_place f p) {r : Listing} {mid : List ℕ}
    (w : ExpandsAll f known store first many leaf (record { from = 0; places = places; made = 0; size = 0 }) old end r mid) (g : length mid ≡ length old)
    {r' : Listing} {new : List ℕ} (z : FillsRest r end places mid r' new) where
  pub values-filled : FillsValues f known store p first many places old end r' new
  values-filled =
      record {
        says = λ M k ds st gd n deep room.
            let v = w.says M k ds
            (record { defaults = record { end = end; stands = rw (rest-zero ds) st; before = omega arith; whole = gd; count = n }; few = omega arith; small = omega arith; room = omega arith }) (omega arith) in
            z.says M (Defs.expand_all f (inits_at f first many) (leaf_place f p) ds 0 0) ds (record { from = 0; places = places; made = 0; size = 0 }) refl refl refl n gd
            (stand-kept st mid end g (omega arith) v.kept)
            (rw (← q) v.lists) (omega arith);
      }

-- ---- `apply_members`
pub record Applying (M : Memo) (f : List ℕ) (first many : ℕ) (p : Place) (fields : Trees) (old : List ℕ) (at e upto : ℕ) (s : List ℕ) : Type 0 where
  pub now : Trees
  pub goes : peek M (Defs.members f (inits_at f first many) p fields) ≡ peek M (Defs.members f (inits_at f e (first + many - e)) p now)
  pub stands : Stand s at (flatten (structure_tree now)) upto
  pub small : Gathered 0 now
  pub kept : take at s ≡ take at old

pub record ApplyInv (f known store : List ℕ) (first many : ℕ) (p : Place) (old : List ℕ) (at end e upto : ℕ) (s : List ℕ) : Type 0 where
  pub long : length s ≡ length old
  pub runs : first ≤ e
  pub some : e ≤ first + many
  pub says : (M : Memo) → Memory f known store M → (fields : Trees) → Structure old at end (rooms f (run_depth f first many)) fields
      → Applying M f first many p fields old at e upto s

pub apply-first : (f known store : List ℕ) (first many : ℕ) (p : Place) (old : List ℕ) (at end : ℕ) → ApplyInv f known store first many p old at end first end old
apply-first f known store first many p old at end =
    record {
      long = refl;
      runs = omega arith;
      some = omega arith;
      says = λ M k fields y.
          let b : first + many - first ≡ many = omega arith in
          record { now = fields; goes = rw b refl; stands = y.stands; small = y.whole; kept = refl };
    }

members-is : (M : Memo) (f : List ℕ) (first k : ℕ) (p : Place) (fields : Trees)
    → peek M (Defs.members f (inits_at f first (suc k)) p fields) ≡ peek M (member_step f first p fields (λ changed. Defs.members f (inits_at f (suc first) k) p changed))
unfolding Defaults.expand member_step
members-is M f first k p fields = rw (inits-next f first k)

members-none : (M : Memo) (f : List ℕ) (first : ℕ) (p : Place) (fields : Trees) → peek M (Defs.members f (inits_at f first 0) p fields) ≡ got (ok (structure_tree fields))
unfolding Defaults.expand
members-none M f first p fields = rw (inits-none f first) (peek-give M (structure_tree fields))

structure-long : (s : List ℕ) (at : ℕ) (ts : Trees) (e : ℕ) → Stand s at (flatten (structure_tree ts)) e → e ≡ at + 6 * nodes (structure_tree ts)
structure-long s at ts e x = sym (Rattle.tree.proofs.Fields.stands-long s at (structure_tree ts) e x)

module _ {f known store : List ℕ} {first many : ℕ} {p : Place} {old : List ℕ} {at end e upto : ℕ} {s : List ℕ} (y : ApplyInv f known store first many p old at end e upto s) where
  pub apply-all : e ≡ first + many → Applies f known store first many p old at end (Ok upto) s
  apply-all h =
      record {
        says = λ M k fields z.
            let v = y.says M k fields z in
            let z : first + many - e ≡ 0 = omega arith in
            record {
              kept = v.kept;
              builds = record {
                tree = structure_tree v.now;
                is = v.goes ∙ ap (λ n. peek M (Defs.members f (inits_at f e n) p v.now)) z ∙ members-none M f e p v.now;
                ends = structure-long s at v.now upto v.stands;
                stands = v.stands;
                small = small-structure v.now v.small;
              };
            };
      }

  module _ (gv : Accepted f) (hr : first + many ≤ count f entries) (h : e < first + many) where
    apply-ready : (M : Memo) (k : Memory f known store M) (fields : Trees) (z : Structure old at end (rooms f (run_depth f first many)) fields)
        → Structure s at upto (12288 + rooms f (entry_depth f e - 1)) (y.says M k fields z).now
    apply-ready M k fields z =
        let v = y.says M k fields z in
        let d = deepest-at (entry_depth f) first many e y.runs h in
        record { stands = v.stands; whole = v.small; room = omega (arith, z.room, y.long, entry-depth-least f gv e (omega arith)) }

    apply-step : (M : Memo) (now : Trees)
        → peek M (Defs.members f (inits_at f e (first + many - e)) p now)
        ≡ peek M (member_step f e p now (λ changed. Defs.members f (inits_at f (e + 1) (first + many - (e + 1))) p changed))
    apply-step M now =
        let c : e + 1 ≡ suc e = omega arith in
        let z : first + many - e ≡ suc (first + many - suc e) = omega arith in
        rw c (ap (λ n. peek M (Defs.members f (inits_at f e n) p now)) z ∙ members-is M f e (first + many - suc e) p now)

    module _ {new : List ℕ} where
      -- what `?` hands on
      pub apply-fails : {u : Unbuilt} → SetsMember f known store e p s at upto (Err u) new → {r : Built} → r ≡ Err u → Applies f known store first many p old at end r new
      apply-fails w q =
          rw q (record {
            says = λ M k fields z.
                let v = y.says M k fields z in
                let x = w.says M k v.now (apply-ready M k fields z) in
                record { kept = x.kept ∙ v.kept; builds = v.goes ∙ apply-step M v.now ∙ x.sets _ };
          })

      pub apply-more : {r : Built} → SetsMember f known store e p s at upto r new → {to : ℕ} → r ≡ Ok to → length new ≡ length s → ApplyInv f known store first many p old at end (e + 1) to new
      apply-more w {to} j g =
          record {
            long = g ∙ y.long;
            runs = omega (arith, y.runs);
            some = omega arith;
            says = λ M k fields z.
                let v = y.says M k fields z in
                let x = w.says M k v.now (apply-ready M k fields z) in
                let t : SetThere M (member_step f e p v.now) at to new = rw j at x.sets in
                record {
                  now = t.changed;
                  goes = v.goes ∙ apply-step M v.now ∙ t.goes (λ changed. Defs.members f (inits_at f (e + 1) (first + many - (e + 1))) p changed);
                  stands = t.stands;
                  small = t.whole;
                  kept = x.kept ∙ v.kept;
                };
          }

-- ---- `set_member`
sets_same : (M : Memo) (a b : (Trees → Ask Outcome) → Ask Outcome) (at : ℕ) (r : Built) (s : List ℕ) → ((k : Trees → Ask Outcome) → peek M (b k) ≡ peek M (a k)) → Sets M a at r s → Sets M b at r s
sets_same M a b at (Ok e) s q x = record { changed = x.changed; goes = λ k. q k ∙ x.goes k; stands = x.stands; whole = x.whole }
sets_same M a b at (Err u) s q x = λ k. q k ∙ x k

structure-parts : (ts : Trees) → parts (structure_tree ts) ≡ ts
unfolding structure_tree Rattle.definition.specs.Tree.headed parts
structure-parts ts = refl

structure-kind : (ts : Trees) → (head (structure_tree ts)).kind ≡ 14
unfolding structure_tree Rattle.definition.specs.Tree.headed head
structure-kind ts = refl

-- a field of a structure that stands
module _ (s : List ℕ) (at end name begin upto : ℕ) where
  part-there : (h : Rattle.definition.specs.Tree.Node) (ts : Trees) → Stand s at (flatten (node h ts)) end → (n : Named name (at + 6) ts (span begin upto)) → Stand s begin (flatten n.part) upto
  part-there h ts x n = go n.front n.part n.back n.is n.begins n.ends
    where
      go : (f : Trees) (p : Tree) (b : Trees) → ts ≡ Rattle.definition.specs.Tree.join f (tcons p b) → begin ≡ at + 6 + 6 * nodes_in f → upto ≡ begin + 6 * nodes p → Stand s begin (flatten p) upto
      go f p b k i j = part-stands s (record { begin = at; end = end }) h f p b (rw k at x) (record { begin = begin; end = upto }) i j

  part-good : (ts : Trees) → Goods ts → (n : Named name (at + 6) ts (span begin upto)) → Good n.part
  unfolding Good
  part-good ts g n = (goods-parted n.front (tcons n.part n.back) (rw n.is at g)).1.0

  part-nodes : (ts : Trees) (n : Named name (at + 6) ts (span begin upto)) → nodes_in ts ≡ nodes_in n.front + (nodes n.part + nodes_in n.back)
  unfolding nodes
  part-nodes ts n = ap nodes_in n.is ∙ nodes_in-join n.front (tcons n.part n.back)

  field-current : (ts : Trees) (need : ℕ) → Structure s at end (12288 + need) ts → (n : Named name (at + 6) ts (span begin upto)) → Current s begin upto n.part end need
  unfolding nodes
  field-current ts need y n =
      let x : Stand s at (flatten (node (head_of ts) ts)) end = rw (structure-node ts) at y.stands in
      let l = x.long in
      record {
        stands = part-there (head_of ts) ts x n;
        before = omega (arith, part-nodes ts n, n.begins, n.ends, flatten-length (node (head_of ts) ts));
        good = part-good ts y.whole.whole n;
        few = omega (arith, part-nodes ts n, y.whole.room);
        room = omega (arith, y.room, flatten-length (node (head_of ts) ts), y.whole.room);
      }

  field-found-at : (ts : Trees) (need : ℕ) → Structure s at end need ts → find_of s at name ≡ Some (span begin upto) → place name (at + 6) ts ≡ Some (span begin upto)
  field-found-at ts need y q =
      rw (structure-parts ts) at (found-place s at (structure_tree ts) end name (span begin upto) (small-structure ts y.whole).good y.stands q).1

field-missing : (s : List ℕ) (at end name : ℕ) (ts : Trees) (need : ℕ) → Structure s at end need ts → find_of s at name ≡ None → place name (at + 6) ts ≡ None
unfolding field_at
field-missing s at end name ts need y q =
    let e = find-there s at (structure_tree ts) end name (small-structure ts y.whole).good y.stands in
    rw (structure-kind ts, structure-parts ts) at (sym e ∙ q)

-- the step, where the field and its place are found
module _ (M : Memo) (f : List ℕ) (e : ℕ) (p : Place) (fields : Trees) where
  step-found : (name : ℕ) → name ≡ entry_name f e → {at : ℕ} {x : Span} → (n : Named name at fields x) → (inner : Place) → field_place f p name ≡ ok inner → (k : Trees → Ask Outcome)
      → peek M (member_step f e p fields k) ≡ peek M (Defs.member f (init_at f e) inner (named 0 n.part) >>= λ t. gathered 0 (assigned name t fields) >>= k)
  unfolding member_step
  step-found name q n inner h k =
      rw (← q) (ap (peek M) (n.asked _)
      ∙ peek-ok M (done (field_place f p name)) (λ inner. Defs.member f (init_at f e) inner (named 0 n.part) >>= λ t. gathered 0 (assigned name t fields) >>= k) inner (peek-done M _ ∙ ap got h))

  step-missing : (at : ℕ) → place (entry_name f e) at fields ≡ None → (k : Trees → Ask Outcome) → peek M (member_step f e p fields k) ≡ got none
  unfolding member_step
  step-missing at q k = ap (peek M) (place_none (entry_name f e) at fields q _) ∙ peek-nothing M

  step-nowhere : (at : ℕ) → field_place f p (entry_name f e) ≡ none → (k : Trees → Ask Outcome) → peek M (member_step f e p fields k) ≡ got none
  unfolding member_step
  step-nowhere at h k = go (place (entry_name f e) at fields) refl
    where
      go : (x : Option Span) → place (entry_name f e) at fields ≡ x → peek M (member_step f e p fields k) ≡ got none
      go (Some x) q =
          let n = place-named (entry_name f e) at fields x q in
          ap (peek M) (n.asked _)
          ∙ peek-none M (done (field_place f p (entry_name f e))) (λ inner. Defs.member f (init_at f e) inner (named 0 n.part) >>= λ t. gathered 0 (assigned (entry_name f e) t fields) >>= k) (peek-done M _ ∙ ap got h)
      go None q = step-missing at q k

module _ (f known store : List ℕ) (e : ℕ) (p : Place) (old : List ℕ) (at end : ℕ) {t : Option Target} (u : Finds f p e old at t) where
  -- what `?` hands on
  pub set-none : {a : std.Result Target Unbuilt} → a ≡ ok_or t unbuilt.None → {why : Unbuilt} → a ≡ Err why → {r : Built} → r ≡ Err why → SetsMember f known store e p old at end r old
  set-none z i q =
      let w = none-of z i q in
      rw w.1 (record { says = λ M k fields y. record { kept = refl; sets = λ k. go M fields y (rw w.0 at u.says) k } })
    where
      go : (M : Memo) (fields : Trees) → Structure old at end (12288 + rooms f (entry_depth f e - 1)) fields → Targets f p e old at None
          → (k : Trees → Ask Outcome) → peek M (member_step f e p fields k) ≡ got none
      go M fields y (inl x) k = step-missing M f e p fields (at + 6) (field-missing old at end (entry_name f e) fields (12288 + rooms f (entry_depth f e - 1)) y x) k
      go M fields y (inr x) k = step-nowhere M f e p fields (at + 6) x k

  module _ {field : Target} (q : t ≡ Some field) {r : Built} {mid : List ℕ}
      (w : BuildsMember f known store e field.place field.begin field.end old end r mid) (g : length mid ≡ length old) {r' : Built} {new : List ℕ} (z : PutsMember r at end field.begin field.end field.name mid r' new) where
    pub set-done : SetsMember f known store e p old at end r' new
    set-done =
        record {
          says = λ M k fields y.
              let x : Targets f p e old at (Some field) = rw q at u.says in
              let pl = field-found-at old at end field.name field.begin field.end fields (12288 + rooms f (entry_depth f e - 1)) y x.1 in
              let n = place-named field.name (at + 6) fields (span field.begin field.end) pl in
              let c = field-current old at end field.name field.begin field.end fields (rooms f (entry_depth f e - 1)) y n in
              let v = w.says M k n.part c in
              let m = Defs.member f (init_at f e) field.place (named 0 n.part) in
              let a : at ≤ end = omega (arith, y.stands.long) in
              let d = z.says M (Defs.member f (init_at f e) field.place (named 0 n.part)) fields
              (record { stands = stand-kept y.stands mid end g (omega arith) v.kept; whole = y.whole; room = omega (arith, y.room) }) pl v.builds in
              record {
                kept = d.kept ∙ take_less mid old at end a v.kept;
                sets =
                    sets_same M (λ k. Defs.member f (init_at f e) field.place (named 0 n.part) >>= λ t. gathered 0 (assigned field.name t fields) >>= k) (member_step f e p fields) at r' new
                    (λ k. step-found M f e p fields field.name x.0 n field.place x.2 k) d.sets;
              };
        }

-- the place that was found
pub target-in : {f : List ℕ} {p : Place} {e : ℕ} {s : List ℕ} {at : ℕ} {t : Option Target} → Finds f p e s at t → {field : Target} → t ≡ Some field → PlaceIn f field.place
target-in x {field} q = x.inside field q

-- ---- `member`
abbrev plain : List ℕ
plain = 0 ∷ 1 ∷ 4 ∷ 5 ∷ 6 ∷ 7 ∷ []

repeat-nothing : (M : Memo) (f : List ℕ) (k link : ℕ) (p : Place) (t : Tree) → peek M (Defs.member f (on_link link (Init.defaults k) (λ e. Init.repeated k (init_at f e))) p t) ≡ got none
unfolding Defaults.expand
repeat-nothing M f k zero p t = peek-nothing M
repeat-nothing M f k (suc l) p t = peek-nothing M

member_is : (M : Memo) (f : List ℕ) (p : Place) (t : Tree) (x : Entry) → OneOf plain (tag_of entry-tags.the_type x)
    → peek M (Defs.member f (init_from f (init_at f) x) p t) ≡ peek M (done (simple_of f p.shape x))
unfolding Defaults.expand init_from simple_of
member_is M f p t (entry.Constant number) o = refl
member_is M f p t (entry.Enumerated value qualifier) o = refl
member_is M f p t (entry.Array first many) o = absurd (miss plain 2 tt o)
member_is M f p t (entry.Structure first many) o = absurd (miss plain 3 tt o)
member_is M f p t (entry.Expression number) o = refl
member_is M f p t entry.LateBound o = peek-nothing M ∙ sym (peek-done M none)
member_is M f p t (entry.Repeat many inner) o = repeat-nothing M f many inner p t ∙ sym (peek-done M none)
member_is M f p t entry.Unknown o = peek-nothing M ∙ sym (peek-done M none)

member-array-is : (f : List ℕ) (first many : ℕ) (p : Place) (t : Tree) → Defs.member f (Init.array (inits_at f first many)) p t ≡ array_of f p first many
unfolding Defaults.expand Defaults.array_of
member-array-is f first many p t = refl

module _ {f known store : List ℕ} (g : Accepted f) (e : ℕ) (h : e < count f entries) {x : Entry} (is : x ≡ entry_at f e)
    {p : Place} (begin upto : ℕ) {old : List ℕ} {at : ℕ} {r : Built} {new : List ℕ} where
  pub member-array : {first many : ℕ} → x ≡ entry.Array first many → BuildsArray f known store p first many old at r new → BuildsMember f known store e p begin upto old at r new
  member-array {first} {many} q w =
      record {
        says = λ M k t y.
            rw (array-init f g e h is q, member-array-is f first many p (named 0 t)) (w.says M k (omega (arith, y.room, array-depth f g e h is q)));
      }

  pub member-structure : {first many : ℕ} → x ≡ entry.Structure first many → BuildsStructure f known store first many p begin upto old at r new → BuildsMember f known store e p begin upto old at r new
  member-structure {first} {many} q w =
      record { says = λ M k t y. rw (structure-init f g e h is q) (w.says M k t (current-less y (rooms f (run_depth f first many)) (omega (arith, structure-depth f g e h is q)))) }

  pub member-simple : OneOf plain (tag_of entry-tags.the_type x) → {v : Option Constant} → as_tree (result_of v) ≡ simple_of f p.shape (entry_at f e) → PutsLeaf v at old r new → BuildsMember f known store e p begin upto old at r new
  member-simple o q x =
      let w = leaf-built x in
      record {
        says = λ M k t y.
            record {
              kept = w.kept;
              builds =
                  builds-same M (done (simple_of f p.shape (entry_at f e))) (Defs.member f (init_at f e) p (named 0 t)) at r new
                  (ap (λ i. peek M (Defs.member f i p (named 0 t))) (init-is f g e h) ∙ member_is M f p (named 0 t) (entry_at f e) (rw is at o)) (w.says M (simple_of f p.shape (entry_at f e)) q (small-simple f p.shape (entry_at f e)) (omega (arith, y.room)));
            };
      }

-- ---- `member_structure`
named-fields : (t : Tree) (go : Trees → Ask Outcome) → on_fields (named 0 t) go ≡ on_fields t go
unfolding named head parts
named-fields (node h ts) go = refl

structure-is : (M : Memo) (f : List ℕ) (is : Inits) (p : Place) (t : Tree)
    → peek M (Defs.member f (Init.structure is) p (named 0 t)) ≡ peek M (on_fields t (λ fields. Defs.members f is p fields))
unfolding Defaults.expand
structure-is M f is p t = ap (peek M) (named-fields t (λ fields. Defs.members f is p fields))

module _ (f known store : List ℕ) (first many : ℕ) (p : Place) {begin upto : ℕ} {old : List ℕ} {at : ℕ} {mid : List ℕ} where
  -- what `?` hands on
  pub over-fails : {u : Unbuilt} → CopiesStructure begin upto old at (Err u) mid → {r : Built} → r ≡ Err u → BuildsStructure f known store first many p begin upto old at r mid
  over-fails {u} c q = rw q (record { says = λ M k t y. record { kept = c.kept; builds = go M t u (c.says t (current-less y 12288 (omega arith))) } })
    where
      go : (M : Memo) (t : Tree) (u : Unbuilt) → Takes t at (Err u) mid → Builds M (Defs.member f (Init.structure (inits_at f first many)) p (named 0 t)) at (Err u) mid
      go M t unbuilt.None h = structure-is M f (inits_at f first many) p t ∙ fields-none M t (λ fields. Defs.members f (inits_at f first many) p fields) h
      go M t unbuilt.TooLarge h = absurd h
      go M t (unbuilt.Wanted d) h = absurd h

  module _ {b : Built} (c : CopiesStructure begin upto old at b mid) {end : ℕ} (q : b ≡ Ok end) (g : length mid ≡ length old) {r : Built} {new : List ℕ} (w : Applies f known store first many p mid at end r new) where
    pub over-applied : BuildsStructure f known store first many p begin upto old at r new
    over-applied =
        record {
          says = λ M k t y.
              let d : Taken t at end mid = rw q at (c.says t (current-less y 12288 (omega arith))) in
              let v = w.says M k (parts t) (record { stands = d.stands; whole = gathered-parts t y.good y.few; room = omega (arith, y.room) }) in
              record {
                kept = v.kept ∙ c.kept;
                builds =
                    builds-same M (Defs.members f (inits_at f first many) p (parts t)) (Defs.member f (Init.structure (inits_at f first many)) p (named 0 t)) at r new
                    (structure-is M f (inits_at f first many) p t ∙ fields-some M t (λ fields. Defs.members f (inits_at f first many) p fields) d.kind) v.builds;
              };
        }

-- ---- what stands for the calls
module _ (f : List ℕ) (first many : ℕ) where
  pub fill-there : {old : List ℕ} {at : ℕ} {x : Option ℕ} {mid : List ℕ} → WroteNode old at (head_words 13 0) x mid → {from : ℕ} → x ≡ Some from → length mid ≡ length old
      → RoomThere old at (rooms f (run_depth f first many)) → RoomThere (take (length mid - from) (drop from mid)) 0 (12282 + 24576 * (run_depth f first many + shapes_deep f))
  fill-there {old} {at} {x} {mid} u {from} q g y =
      let a = part-rest from mid in
      let w = (wrote-so-is (leb (at + 6) (length old)) u q).1 in
      record { room = rw a (simp length-drop (omega (arith, y.room))) }

  pub elements-there : {s : List ℕ} → RoomThere s 0 (12282 + 24576 * (run_depth f first many + shapes_deep f)) → RoomThere s 0 (12282 + 24576 * shapes_deep f)
  elements-there y = record { room = omega (arith, y.room) }

  pub values-there : {classes known store : List ℕ} {p : Place} {old : List ℕ} {d : Listing} {mid : List ℕ} → ElementDefaults f known store p old 0 d mid → {front : Listed} → d ≡ Ok front
      → length mid ≡ length old → Ready f classes known store → RoomThere old 0 (12282 + 24576 * (run_depth f first many + shapes_deep f)) → ValuesThere f first many front.made mid front.end
  values-there {classes} {known} {store} {p} {old} {d} {mid} u q g gv y =
      let t = lists-as gv.memo (element_defaults f (default_of f) p) whole 0 mid q (u.says gv.memo gv.memory (omega (arith, y.room))).lists in
      record { trees = t.trees; stands = t.stands; small = t.small; counts = omega (arith, t.counts); room = omega (arith, y.room, t.ends, t.small.room) }

  pub run-there : {places : ℕ} {s : List ℕ} {end : ℕ} → ValuesThere f first many places s end → RunThere f first many s (record { from = 0; places = places; made = 0; size = 0 }) end
  run-there {places} {s} {end} y =
      record {
        trees = y.trees;
        ready = record { defaults = record { end = end; stands = rw (rest-zero y.trees) y.stands; before = omega arith; whole = y.small; count = y.counts }; few = omega arith; small = omega arith; room = omega (arith, y.room) };
        room = omega (arith, y.room);
      }

pub apply-there : {f classes known store : List ℕ} {first many : ℕ} {p : Place} {old : List ℕ} {at end e upto : ℕ} {s : List ℕ} → ApplyInv f known store first many p old at end e upto s
    → Ready f classes known store → first + many ≤ count f entries → e < first + many → FieldsThere old at end (rooms f (run_depth f first many))
    → FieldsThere s at upto (12288 + rooms f (entry_depth f e - 1))
apply-there {f} {classes} {known} {store} {first} {many} {p} {old} {at} {end} {e} {upto} {s} y gv hr h z =
    let v = y.says gv.memo gv.memory z.fields z.there in
    let d = deepest-at (entry_depth f) first many e y.runs h in
    record { fields = v.now; there = record { stands = v.stands; whole = v.small; room = omega (arith, z.there.room, y.long, entry-depth-least f gv.accepted e (omega arith)) } }

pub target-there : (f : List ℕ) (p : Place) (e : ℕ) {old : List ℕ} {at end : ℕ} {t : Option Target} → Finds f p e old at t → {field : Target} → t ≡ Some field → {need : ℕ}
    → FieldsThere old at end (12288 + need) → ValueThere old field.begin field.end end need
target-there f p e {old} {at} {end} {t} u {field} q {need} y =
    let x : Targets f p e old at (Some field) = rw q at u.says in
    let pl = field-found-at old at end field.name field.begin field.end y.fields (12288 + need) y.there x.1 in
    let n = place-named field.name (at + 6) y.fields (span field.begin field.end) pl in
    record { tree = n.part; there = field-current old at end field.name field.begin field.end y.fields need y.there n }

pub over-there : (f : List ℕ) (n : ℕ) {begin upto : ℕ} {old : List ℕ} {at : ℕ} {b : Built} {mid : List ℕ} → CopiesStructure begin upto old at b mid → {end : ℕ} → b ≡ Ok end → length mid ≡ length old
    → ValueThere old begin upto at (rooms f n) → FieldsThere mid at end (rooms f n)
over-there f n {begin} {upto} {old} {at} {b} {mid} c {end} q g y =
    let d : Taken y.tree at end mid = rw q at (c.says y.tree (current-less y.there 12288 (omega arith))) in
    record { fields = parts y.tree; there = record { stands = d.stands; whole = gathered-parts y.tree y.there.good y.there.few; room = omega (arith, y.there.room) } }

pub ruleset building = (rules, opened, some-of, array-short, array-built, fill_fails, fill-filled, values-filled, apply-first, apply-all, apply-fails, apply-more, set-none, set-done, member-array, member-structure, member-simple, over-fails, over-applied)

pub ruleset asked = (lower, fill-there, elements-there, values-there, run-there, apply-there, target-there, over-there, target-in, some-of, rest-begins, rest-scaled)

pub ruleset answering = (asked, apply-fails, fill-filled, fill_fails, values-filled, member-array, member-structure, member-simple, set-done)
