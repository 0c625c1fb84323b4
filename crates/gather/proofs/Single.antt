-- A law for each return of leaves.rt, and what its calls require. Assumes nothing.
use borrow.Enum.Refused.{opened}
use mathlib.Core.Path.{◌≡◌, refl, ap, sym, ◌∙◌}
use mathlib.Core.List.{List, [], ◌∷◌}
use Prim.Native.Nat.{ℕ, ◌+◌, ◌*◌, ◌≤◌, ◌<◌}
use native.Mathlib.Omega.{arith}
use types.Run.{OneOf, miss}
use denote.Enum.Declared.{tag_of}
use borrow.Author.Rules.{rules}
use Rattle.definition.specs.contracts.records.Entry.{the_type}
use Rattle.definition.specs.declared.records.Shape.{Shape}
use Rattle.definition.specs.declared.records.Constant.{Constant}
use Rattle.definition.specs.declared.records.Entry.{Entry}
use Rattle.definition.specs.declared.records.Entry.TheVariants as entry
use Rattle.definition.specs.Layout.{count, entries, expressions, constants}
use Rattle.definition.specs.Records.{entry_at, constant_at}
use Rattle.definition.specs.Syntax.{expr_at}
use Rattle.definition.specs.Tree.{many, nodes, nodes_in, flatten, leaf, one}
use Rattle.definition.specs.Ask.{ok, none, large, Outcome, Ask, done}
use Rattle.definition.specs.Scalar.{as_tree, constant_value, enumerated_value, expression_value}
use Rattle.definition.specs.Parts.{added}
use Rattle.definition.specs.Resolve.{Memo}
use Rattle.definition.specs.Peek.{got, peek}
use Rattle.laws.specs.Accepted.{Accepted}
use Rattle.laws.specs.Asks.{OnOk}
use Rattle.laws.specs.Values.{Small, good-leaf, sized-leaf, leaf-constant_value, leaf-enumerated_value, leaf-expression_value}
use Rattle.places.specs.Inside.{ShapeIn, PlaceIn}
use Rattle.definition.specs.declared.records.Place.{Place}
use Rattle.laws.specs.Pointed.{entry-pointed}
use Rattle.laws.specs.Steps.{peek-done, peek-ok}
use Rattle.laws.specs.Whole.{Good, many-one, nodes_in-one, flatten-length, flatten_all-one, goods-one}
use Rattle.definition.specs.Ask.{result_of}
use Rattle.tree_changes.specs.Limit.{added_of}
use Rattle.tree_changes.proofs.Limits.{count_fits, size_fits, added_is}
use Rattle.build.specs.declared.built.Unbuilt.{Unbuilt}
use Rattle.build.specs.Built.{Built}
use Rattle.build.specs.Built.{Gives}
use Rattle.build.specs.Leaves.{PutsLeaf}
use Rattle.build.specs.Unfit.{unlisted_of}
use Rattle.gather.specs.declared.answers.Filling.{Filling}
use Rattle.gather.specs.Answers.{Listing, listed, TreeThere, Builds, Lists}
use Rattle.gather.specs.Leaves.{simple_of, on_added, pushed, Puts, Pushes, PushesTree}
use Rattle.gather.proofs.Onward.{peek-stops, builds-as, lists-added}
use Rattle.std.specs.Prelude.{Err, None, Ok, Option, Some}
use Rattle.std.specs.Prelude as std
use Rattle.tree_changes.specs.declared.limit.Misfit.{Misfit}
use Rattle.tree_changes.specs.Limit.{Added}

-- ---- `simple`
abbrev others : List ℕ
others = 2 ∷ 3 ∷ 5 ∷ 6 ∷ 7 ∷ []

module _ (f : List ℕ) (s : Shape) (e : ℕ) {x : Entry} (is : x ≡ entry_at f e) where
  module _ {r : Outcome} where
    pub simple-constant : {number : ℕ} → x ≡ entry.Constant number → r ≡ constant_value f s (constant_at f number) → r ≡ simple_of f s (entry_at f e)
    unfolding simple_of
    simple-constant q h = rw (← is, q) h

    pub simple-enumerated : {value qualifier : ℕ} → x ≡ entry.Enumerated value qualifier → r ≡ enumerated_value f s value qualifier → r ≡ simple_of f s (entry_at f e)
    unfolding simple_of
    simple-enumerated q h = rw (← is, q) h

    pub simple-expression : {number : ℕ} → x ≡ entry.Expression number → r ≡ expression_value f s (expr_at f number) → r ≡ simple_of f s (entry_at f e)
    unfolding simple_of
    simple-expression q h = rw (← is, q) h

  by-others : (y : Entry) → OneOf others (tag_of the_type y) → none ≡ simple_of f s y
  unfolding simple_of
  by-others (entry.Constant number) h = absurd (miss others 0 tt h)
  by-others (entry.Enumerated value qualifier) h = absurd (miss others 1 tt h)
  by-others (entry.Array first many) h = refl
  by-others (entry.Structure first many) h = refl
  by-others (entry.Expression number) h = absurd (miss others 4 tt h)
  by-others entry.LateBound h = refl
  by-others (entry.Repeat many inner) h = refl
  by-others entry.Unknown h = refl

  pub simple-other : OneOf others (tag_of the_type x) → as_tree none ≡ simple_of f s (entry_at f e)
  unfolding as_tree
  simple-other h = rw (← is) (by-others x h)

  pub constant-inside : Accepted f → e < count f entries → {number : ℕ} → x ≡ entry.Constant number → number < count f constants
  constant-inside a l q = rw (sym is ∙ q) at (entry-pointed f a e l)

  pub simple-inside : Accepted f → e < count f entries → {number : ℕ} → x ≡ entry.Expression number → number < count f expressions
  simple-inside a l q = rw (sym is ∙ q) at (entry-pointed f a e l)

-- ---- `put_leaf` of `build`, for an answer that is small
pub leaf-built : {v : Option Constant} {old : List ℕ} {at : ℕ} {r : Built} {new : List ℕ} → PutsLeaf v at old r new → Puts v old at r new
leaf-built {v} {old} {at} {r} {new} x = record { kept = x.kept; says = λ M o p small room. go M o small (rw p at (x.gives room)) }
  where
    go : (M : Memo) (o : Outcome) → OnOk Small o → Gives flatten (got o) at r new → Builds M (done o) at r new
    go M (ok t) small g = rw g.says (record { tree = t; is = peek-done M (ok t); ends = omega (arith, flatten-length t); stands = g.stands; small = small })
    go M none small g = rw g.says (peek-done M none)
    go M large small g = rw g.says (peek-done M large)

-- ---- `push_tree`
module _ {b : Built} (l : Filling) (at : ℕ) where
  pub push-ends : {e : ℕ} → b ≡ Ok e → {n : ℕ} → ((k : ℕ) → e ≡ at + 6 * k → n ≡ k) → {r : Listing} → r ≡ on_added (added_of l.places l.made l.size 1 n) (listed e (l.made + 1) (l.size + n))
      → PushesTree b l at r
  push-ends {e} q {n} counts {r} h = record { says = λ M m s y. go M m s (builds-as M m at s q y) }
    where
      go : (M : Memo) (m : Ask Outcome) (s : List ℕ) → TreeThere M m at e s → Lists M (pushed l m) l at r s
      go M m s y =
          let t = y.tree in
          let k = counts (nodes y.tree) y.ends in
          let a : many (one y.tree) ≡ 1 = many-one y.tree in
          let b : nodes_in (one y.tree) ≡ nodes y.tree = nodes_in-one y.tree in
          let v : r ≡ on_added (added_of l.places l.made l.size (many (one y.tree)) (nodes_in (one y.tree))) (listed e (l.made + many (one y.tree)) (l.size + nodes_in (one y.tree))) =
          rw (a, b) (rw k at h) in
          lists-added M (pushed l m) l at e (one y.tree) s
          (peek-ok M m (λ t. added l.places l.made l.size (one t)) y.tree y.is ∙ ap (peek M) (added_is l.places l.made l.size (one y.tree)) ∙ peek-done M _)
          (rw (flatten_all-one y.tree) y.stands) (goods-one y.tree y.small.good) (rw b y.ends) v

  pub push-fails : {u : Unbuilt} → b ≡ Err u → {r : Listing} → r ≡ Err u → PushesTree b l at r
  push-fails {u} q e = record { says = λ M m s y. rw e (peek-stops M m (λ t. added l.places l.made l.size (one t)) u (builds-as M m at s q y)) }

-- a tree that ends there, where it may be added or not
module _ (l : Filling) (at : ℕ) {e n : ℕ} (counts : (k : ℕ) → e ≡ at + 6 * k → n ≡ k) {a : Added} (q : a ≡ added_of l.places l.made l.size 1 n) where
  pub tree-fits : {u : Unit {0}} → a ≡ Ok u → PushesTree (Ok e) l at (listed e (l.made + 1) (l.size + n))
  tree-fits i = push-ends l at refl counts (rw (← q, i) refl)

  pub tree-not : {m : Misfit} → a ≡ Err m → {r : Listing} → r ≡ Err (unlisted_of m) → PushesTree (Ok e) l at r
  tree-not i p = push-ends l at refl counts (rw (← q, i) p)

pub tree-as : {b : Built} {l : Filling} {at e : ℕ} {r : Listing} → b ≡ Ok e → PushesTree (Ok e) l at r → PushesTree b l at r
tree-as q w = rw q w

pub push-leaf : {v : Option Constant} {l : Filling} {old : List ℕ} {at : ℕ} {b : Built} {new : List ℕ} → PutsLeaf v at old b new → {r : Listing} → PushesTree b l at r → Pushes v l old at r new
push-leaf x t = let p = leaf-built x in record { kept = p.kept; says = λ M o q small room. t.says M (done o) _ (p.says M o q small room) }

-- ---- by an entry's record
small-leaf : (kind sign low high width : ℕ) → kind ≤ 12 → Small (leaf kind sign low high width)
small-leaf kind sign low high width h = sized-leaf Good kind sign low high width (good-leaf kind sign low high width h)

pub small-simple : (f : List ℕ) (s : Shape) (x : Entry) → OnOk Small (simple_of f s x)
unfolding simple_of
small-simple f s (entry.Constant number) = leaf-constant_value Small small-leaf f s (constant_at f number)
small-simple f s (entry.Enumerated value qualifier) = leaf-enumerated_value Small small-leaf f s value qualifier
small-simple f s (entry.Array first many) = tt
small-simple f s (entry.Structure first many) = tt
small-simple f s (entry.Expression number) = leaf-expression_value Small small-leaf f s (expr_at f number)
small-simple f s entry.LateBound = tt
small-simple f s (entry.Repeat many inner) = tt
small-simple f s entry.Unknown = tt

pub place-shape : {f : List ℕ} {place : Place} → PlaceIn f place → ShapeIn f place.shape
place-shape i = i.shape

pub ruleset laws = (
  rules,
  opened,
  simple-constant,
  simple-enumerated,
  simple-expression,
  simple-other,
  constant-inside,
  simple-inside,
  tree-fits,
  tree-not,
  count_fits,
  size_fits,
  push-ends,
  push-fails,
  push-leaf,
)
