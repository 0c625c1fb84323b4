-- A member's place in a structure, and its new value: a law for each return of the functions in copies.rt. Assumes nothing.
use mathlib.Core.Path.{◌≡◌, refl, ap, sym, ◌∙◌}
use mathlib.Core.Bool.{Bool, true, false}
use mathlib.Core.Logic.{inl, inr}
use mathlib.Core.List.{List}
use Prim.Native.Nat.{ℕ, suc, ◌+◌, ◌-◌, ◌*◌, ◌≤◌, ◌<◌}
use native.Mathlib.Omega.{arith}
use borrow.Author.Rules.{rules}
use borrow.Author.Tests.{leb-true, leb-false}
use lib.Dec.{leb}
use lib.ListN.{length, take, set, length-set}
use lib.Seq.{take-take, take-append-le, take-set-le, length-take-le}
use Rattle.definition.specs.declared.records.Place.{Place}
use Rattle.definition.specs.Base.{pick}
use Rattle.definition.specs.Layout.{word, entries}
use Rattle.definition.specs.Records.{entry_name}
use Rattle.definition.specs.Tree.{Node, Tree, Trees, node, tcons, many, nodes, nodes_in, flatten, headed, structure_tree, most_nodes}
use Rattle.definition.specs.Ask.{large, Outcome, Ask, ◌>>=◌, gathered}
use Rattle.definition.specs.Iec.{assigned}
use Rattle.definition.specs.Places.{field_place}
use Rattle.definition.specs.Resolve.{Memo}
use Rattle.definition.specs.Peek.{got, peek}
use Rattle.laws.specs.Accepted.{Accepted}
use Rattle.laws.specs.Steps.{peek-ok, peek-large}
use Rattle.laws.specs.Whole.{nodes_in-join, goods-assigned, many-assigned, flatten-length}
use Rattle.definition.specs.Ask.{result_of}
use Rattle.places.specs.Inside.{PlaceIn, field_found}
use Rattle.tree.specs.declared.extent.Span.{Span}
use Rattle.tree.specs.Words.{Stand}
use Rattle.tree.specs.Part.{span, place, find_of}
use Rattle.tree_changes.specs.Grow.{in_order, moved, Spliced, Assigned, renamed}
use Rattle.tree.proofs.Fields.{Named, place-named}
use Rattle.tree_changes.proofs.Splicing.{assigned-limit, assigned-there}
use Rattle.build.specs.declared.built.Unbuilt.{Unbuilt}
use Rattle.build.specs.declared.built.Unbuilt.TheVariants as unbuilt
use Rattle.build.specs.Built.{Built}
use Rattle.build.specs.Unfit.{unbuilt_of}
use Rattle.gather.specs.declared.copies.Target.{Target}
use Rattle.gather.specs.Answers.{TreeThere}
use Rattle.gather.specs.Room.{Structure}
use Rattle.gather.specs.Copies.{SetThere, SetsKept, Finds, PutsMember}
use Rattle.gather.proofs.Onward.{peek-stops, builds-as}
use Rattle.gather.proofs.Arrays.{gathered-ok, gathered-large, replaced-is, in_order_lem}
use Rattle.std.specs.Prelude.{Err, None, Ok, Option, Some}
use Rattle.std.specs.Prelude as std
use Rattle.tree_changes.specs.declared.grow.Unfit.TheVariants as unfit
use Rattle.tree_changes.specs.declared.grow.Unfit.{Unfit}

-- ---- `find_field`
named-entry : (f : List ℕ) (e : ℕ) {name : ℕ} → name ≡ word f entries e 1 → name ≡ entry_name f e
unfolding entry_name
named-entry f e q = q

module _ {f : List ℕ} (a : Accepted f) (p : Place) (i : PlaceIn f p) (e : ℕ) {name : ℕ} (n : name ≡ word f entries e 1)
    {s : List ℕ} (at : ℕ) {x : Option Span} (q : x ≡ find_of s at name) where
  module _ {w : Span} (j : x ≡ Some w) {y : Option Place} (z : result_of y ≡ field_place f p name) where
    pub finds-at : {inner : Place} → y ≡ Some inner → Finds f p e s at (Some (record { begin = w.begin; end = w.end; name = name; place = inner }))
    finds-at {inner} k =
        record {
          says = (named-entry f e n, sym q ∙ j, sym z ∙ (rw k refl));
          inside = λ t v. let o : inner ≡ t.place = cc in rw o at (field_found f a p name i z k);
        }

    pub finds-none : y ≡ None → {r : Option Target} → r ≡ None → Finds f p e s at r
    finds-none k o =
        rw o (record {
          says = inr (rw (← named-entry f e n) (sym z ∙ (rw k refl)));
          inside = λ t v. let a : ◌≡◌ {A = ℕ} 0 1 = cc in absurd (omega arith);
        })

  pub finds-nothing : x ≡ None → {r : Option Target} → r ≡ None → Finds f p e s at r
  finds-nothing j o =
      rw o (record {
        says = inl (rw (← named-entry f e n) (sym q ∙ j));
        inside = λ t v. let a : ◌≡◌ {A = ℕ} 0 1 = cc in absurd (omega arith);
      })

-- ---- `put_member`
-- the head of a structure, and the structure with a field assigned
abbrev pub head_of : Trees → Node
head_of ts = record { name = 0; kind = 14; sign = 0; low = many ts; high = 0; width = 0 }

pub structure-node : (ts : Trees) → structure_tree ts ≡ node (head_of ts) ts
unfolding structure_tree headed
structure-node ts = refl

structure-assigned : (name : ℕ) (t : Tree) (ts : Trees) → node (head_of ts) (assigned name t ts) ≡ structure_tree (assigned name t ts)
structure-assigned name t ts = ap (λ n. node (record { name = 0; kind = 14; sign = 0; low = n; high = 0; width = 0 }) (assigned name t ts)) (sym (many-assigned name t ts)) ∙ sym (structure-node (assigned name t ts))

-- naming the new value changes nothing before it
renamed-kept : (s : List ℕ) (at name n : ℕ) → n ≤ at → take n (renamed s at name) ≡ take n s
renamed-kept s at name n h = go (leb (at + 6) (length s))
  where
    go : (b : Bool) → take n (pick b (set s at name) s) ≡ take n s
    go true = take-set-le n s at name h
    go false = refl

renamed-long : (s : List ℕ) (at name : ℕ) → length (renamed s at name) ≡ length s
renamed-long s at name = go (leb (at + 6) (length s))
  where
    go : (b : Bool) → length (pick b (set s at name) s) ≡ length s
    go true = length-set s at name
    go false = refl

module _ (at end begin upto name to : ℕ) (old : List ℕ) {g : std.Result ℕ Unfit} {new : List ℕ} (w : Assigned old (span at end) (span begin upto) (span end to) name g new)
    (M : Memo) (m : Ask Outcome) (fields : Trees) (x : Structure old at end 24576 fields) (p : place name (at + 6) fields ≡ Some (span begin upto)) (y : TreeThere M m end to old) where
  stands : Stand old at (flatten (node (head_of fields) fields)) end
  stands = rw (structure-node fields) at x.stands

  named : Named name (at + 6) fields (span begin upto)
  named = place-named name (at + 6) fields (span begin upto) p

  limit : leb (begin - at + moved (span at end) (span begin upto) (span end to)) (most_nodes * 6) ≡ leb (suc (nodes_in (assigned name y.tree fields))) most_nodes
  limit = assigned-limit old (span at end) (head_of fields) fields stands name (span begin upto) p y.tree (span end to) y.stands (omega arith)

  part-inside : upto ≤ end
  unfolding nodes
  part-inside =
      let n = named in
      let l = stands.long in
      omega (arith, n.begins, n.ends, ap nodes_in n.is, nodes_in-join n.front (tcons n.part n.back), flatten-length (node (head_of fields) fields))

  in_place : in_order (span at end) (span begin upto) (span end to) ≡ true
  in_place =
      in_order_lem (span at end) (span begin upto) (span end to) (omega (arith, named.begins)) (omega (arith, named.ends)) part-inside (omega arith) (omega (arith, y.ends))

  tree-most : end ≤ at + 12288
  unfolding nodes
  tree-most = omega (arith, stands.long, flatten-length (node (head_of fields) fields), x.whole.room)

  answer-is : g ≡ pick (leb (begin - at + moved (span at end) (span begin upto) (span end to)) (most_nodes * 6)) (Ok (begin + moved (span at end) (span begin upto) (span end to))) (Err unfit.TooLarge)
  answer-is =
      w.says ∙ replaced-is (length old) (span at end) (span begin upto) (span end to) in_place (λ h. omega (arith, h, named.begins, x.room, part-inside, tree-most, y.ends))

  by_size : (P : Type 0) → (suc (nodes_in (assigned name y.tree fields)) ≤ most_nodes → g ≡ Ok (begin + moved (span at end) (span begin upto) (span end to)) → P)
      → (most_nodes < suc (nodes_in (assigned name y.tree fields)) → g ≡ (Err unfit.TooLarge) → P) → P
  by_size P a c = go (leb (begin - at + moved (span at end) (span begin upto) (span end to)) (most_nodes * 6)) refl answer-is
    where
      go : (d : Bool) → leb (begin - at + moved (span at end) (span begin upto) (span end to)) (most_nodes * 6) ≡ d
          → g ≡ pick d (Ok (begin + moved (span at end) (span begin upto) (span end to))) (Err unfit.TooLarge) → P
      go true e z = a (leb-true (suc (nodes_in (assigned name y.tree fields))) most_nodes (sym limit ∙ e)) z
      go false e z = c (leb-false (suc (nodes_in (assigned name y.tree fields))) most_nodes (sym limit ∙ e)) z

  -- what follows the member's own computation
  next-is : (k : Trees → Ask Outcome) → peek M (m >>= λ t. gathered 0 (assigned name t fields) >>= k) ≡ peek M (gathered 0 (assigned name y.tree fields) >>= k)
  next-is k = peek-ok M m (λ t. gathered 0 (assigned name t fields) >>= k) y.tree y.is

  set-ends : {e : ℕ} → g ≡ Ok e → SetsKept M (λ k. m >>= λ t. gathered 0 (assigned name t fields) >>= k) old at (Ok e) new
  set-ends {e} j =
      let z : Spliced (renamed old end name) (span at end) (span begin upto) (span end to) new = rw j at w.wrote in
      let b : at + 6 ≤ begin = omega (arith, named.begins) in
      let l : begin ≤ length (renamed old end name) = omega (arith, renamed-long old end name, part-inside, named.ends, stands.fits) in
      record {
        kept =
            sym (take-take at (begin + moved (span at end) (span begin upto) (span end to)) new (omega arith)) ∙ ap (take at) z.front
            ∙ take-append-le at (take begin (renamed old end name)) _ (omega (arith, length-take-le begin (renamed old end name) l))
            ∙ take-take at begin (renamed old end name) (omega arith) ∙ renamed-kept old end name at (omega (arith, part-inside, named.ends));
        sets = by_size (SetThere M (λ k. m >>= λ t. gathered 0 (assigned name t fields) >>= k) at e new)
            (λ h v.
            let r : e ≡ begin + moved (span at end) (span begin upto) (span end to) = cc in
            record {
              changed = assigned name y.tree fields;
              goes = λ k. next-is k ∙ peek-ok M (gathered 0 (assigned name y.tree fields)) k (assigned name y.tree fields) (gathered-ok M 0 (assigned name y.tree fields) (omega arith));
              stands = rw (r, ← structure-assigned name y.tree fields)
                  (assigned-there old (span at end) (head_of fields) fields stands name (span begin upto) p y.tree (span end to) y.stands (omega arith) z);
              whole = record { whole = goods-assigned name y.tree fields y.small.good x.whole.whole; room = omega arith };
            })
            (λ h v. let n : ◌≡◌ {A = ℕ} 0 1 = cc in absurd (omega arith));
      }

  set-large : g ≡ (Err unfit.TooLarge) → SetsKept M (λ k. m >>= λ t. gathered 0 (assigned name t fields) >>= k) old at (Err unbuilt.TooLarge) new
  set-large j =
      record {
        kept = ap (take at) (rw j at w.wrote);
        sets = λ k. next-is k ∙ by_size (peek M (gathered 0 (assigned name y.tree fields) >>= k) ≡ got large)
            (λ h v. let n : ◌≡◌ {A = ℕ} 0 1 = cc in absurd (omega arith))
            (λ h v. peek-large M (gathered 0 (assigned name y.tree fields)) k (gathered-large M 0 (assigned name y.tree fields) (omega arith)));
      }

  set-not : g ≡ (Err unfit.Outside) → ⊥
  set-not j = by_size ⊥ (λ h v. let n : ◌≡◌ {A = ℕ} 0 1 = cc in omega arith) (λ h v. let n : ◌≡◌ {A = ℕ} 0 1 = cc in omega arith)

module _ {b : Built} (at end begin upto name : ℕ) where
  module _ {to : ℕ} (q : b ≡ Ok to) {old : List ℕ} {g : std.Result ℕ Unfit} {new : List ℕ}
      (w : Assigned old (record { begin = at; end = end }) (record { begin = begin; end = upto }) (record { begin = end; end = to }) name g new) where
    pub puts-ends : {e : ℕ} → g ≡ Ok e → PutsMember b at end begin upto name old (Ok e) new
    puts-ends j = record { says = λ M m fields x p y. set-ends at end begin upto name to old w M m fields x p (builds-as M m end old q y) j }

    pub puts-fails : {u : Unfit} → g ≡ Err u → {r : Built} → r ≡ Err (unbuilt_of u) → PutsMember b at end begin upto name old r new
    puts-fails {u} j {r} e = rw e (go u j)
      where
        go : (u : Unfit) → g ≡ Err u → PutsMember b at end begin upto name old (Err (unbuilt_of u)) new
        go unfit.TooLarge j = record { says = λ M m fields x p y. set-large at end begin upto name to old w M m fields x p (builds-as M m end old q y) j }
        go unfit.Outside j = record { says = λ M m fields x p y. absurd (set-not at end begin upto name to old w M m fields x p (builds-as M m end old q y) j) }

  pub puts_none : {u : Unbuilt} → b ≡ Err u → {r : Built} → r ≡ Err u → {old : List ℕ} → PutsMember b at end begin upto name old r old
  puts_none {u} q {r} e {old} =
      rw e (record { says = λ M m fields x p y. record { kept = refl; sets = λ k. peek-stops M m (λ t. gathered 0 (assigned name t fields) >>= k) u (builds-as M m end old q y) } })

pub puts-as : {b : Built} {to : ℕ} → b ≡ Ok to → {at end begin upto name : ℕ} {old : List ℕ} {r : Built} {new : List ℕ} → PutsMember (Ok to) at end begin upto name old r new → PutsMember b at end begin upto name old r new
puts-as q w = rw q w

pub ruleset laws = (rules, finds-at, finds-none, finds-nothing, puts-ends, puts-fails, puts_none)
