-- What stands in the words after a part gave way to another, as trees of the definition. Assumes nothing.
use mathlib.Core.Path.{◌≡◌, refl, ap, ◌∙◌}
use mathlib.Core.Bool.{Bool, true, false}
use mathlib.Core.List.{List, ◌++◌, append_assoc}
use Prim.Native.Nat.{ℕ, suc, ◌+◌, ◌-◌, ◌*◌, ◌≤◌}
use native.Mathlib.Omega.{arith}
use lib.Dec.{leb}
use lib.ListN.{length, take, set, length-append, length-set}
use lib.Seq.{slice, take-add, take-set-le}
use borrow.Author.Tests.{le-leb, lt-leb, leb-true, leb-false}
use Rattle.std.specs.Prelude.{Some}
use Rattle.definition.specs.Tree.{Node, Tree, Trees, node, tcons, head, many, nodes, nodes_in, flatten, flatten_all, named, join, rest, replaced, most_nodes}
use Rattle.definition.specs.Iec.{filled, assigned}
use Rattle.laws.specs.Whole.{flatten-length, flatten_all-length, flatten_all-join, nodes-some, many-join, many-rest}
use Rattle.tree.specs.declared.extent.Span.{Span}
use Rattle.tree.specs.Words.{Stand}
use Rattle.tree.specs.Node.{words_of, as_node}
use Rattle.tree.specs.Part.{place}
use Rattle.tree_changes.specs.Grow.{moved, Spliced, renamed}
use Rattle.tree.proofs.Stands.{take-drop, stand-front, stand-back, stand-kept, wrote-stand}
use Rattle.tree.proofs.Standing.{named-there}
use Rattle.tree.proofs.Fields.{head-stands, Named, place-named}

-- ---- a part that gave way
pub stand-take : {s : List ℕ} {at : ℕ} {ws : List ℕ} {end : ℕ} → Stand s at ws end → take end s ≡ take at s ++ ws
stand-take {s} {at} {ws} {end} x =
    let n : at + length ws ≡ end = x.long in
    rw (← x.long) (take-add at (length ws) s ∙ ap (λ (l : List ℕ). take at s ++ l) (take-drop at (length ws) s ∙ ap (λ (k : ℕ). slice at k s) n ∙ x.is))

sized : (t : Tree) {ws : List ℕ} → flatten t ≡ ws → {n : ℕ} → n ≡ length ws → n ≡ nodes t * 6
sized t e i = omega (arith, i, ap (λ (l : List ℕ). length l) e, flatten-length t)

-- what is before the part, what takes its place, and what follows it
module _ {old : List ℕ} {tree part fresh : Span} {front us back : List ℕ}
    (a : Stand old tree.begin front part.begin) (y : Stand old fresh.begin us fresh.end) (b : Stand old part.end back tree.end) where
  pub spliced-size : part.begin - tree.begin + moved tree part fresh ≡ length (front ++ (us ++ back))
  spliced-size = simp length-append (omega (arith, a.long, y.long, b.long))

  pub spliced-words : {new : List ℕ} → Spliced old tree part fresh new → Stand new tree.begin (front ++ (us ++ back)) (part.begin + moved tree part fresh)
  spliced-words {new} z =
      wrote-stand old new tree.begin (front ++ (us ++ back)) (part.begin + moved tree part fresh)
      (omega (arith, a.long, a.fits))
      (omega (arith, a.long, spliced-size))
      (z.front ∙ rw (stand-take a, y.is, b.is) (append_assoc (take tree.begin old) front (us ++ back)))

module _ (old : List ℕ) (tree : Span) (h : Node) (f : Trees) (p : Tree) (b : Trees) (x : Stand old tree.begin (flatten (node h (join f (tcons p b)))) tree.end) where
  abbrev before : List ℕ
  before = words_of (as_node h) ++ flatten_all f

  split : flatten (node h (join f (tcons p b))) ≡ before ++ (flatten p ++ flatten_all b)
  unfolding flatten
  split = rw flatten_all-join

  before-long : length before ≡ 6 + 6 * nodes_in f
  before-long = simp length-append (omega (arith, flatten_all-length f))

  module _ (part : Span) (i : part.begin ≡ tree.begin + 6 + 6 * nodes_in f) (j : part.end ≡ part.begin + 6 * nodes p) where
    -- where what is before the part ends, and what is behind it begins
    stands : Stand old tree.begin (before ++ (flatten p ++ flatten_all b)) tree.end
    stands = rw split at x

    front-place : tree.begin + length before ≡ part.begin
    front-place = omega (arith, before-long)

    front-stands : Stand old tree.begin before part.begin
    front-stands = rw front-place at (stand-front before (flatten p ++ flatten_all b) stands)

    rest-stands : Stand old part.begin (flatten p ++ flatten_all b) tree.end
    rest-stands = rw front-place at (stand-back before (flatten p ++ flatten_all b) stands)

    back-place : part.begin + length (flatten p) ≡ part.end
    back-place = omega (arith, flatten-length p)

    pub part-stands : Stand old part.begin (flatten p) part.end
    part-stands = rw back-place at (stand-front (flatten p) (flatten_all b) rest-stands)

    back-stands : Stand old part.end (flatten_all b) tree.end
    back-stands = rw back-place at (stand-back (flatten p) (flatten_all b) rest-stands)

    module _ (u : Tree) (fresh : Span) (y : Stand old fresh.begin (flatten u) fresh.end) where
      new_split : flatten (node h (join f (tcons u b))) ≡ before ++ (flatten u ++ flatten_all b)
      unfolding flatten
      new_split = rw flatten_all-join

      -- the size that `replace` tests is the new tree's
      pub grown-size : part.begin - tree.begin + moved tree part fresh ≡ nodes (node h (join f (tcons u b))) * 6
      grown-size = sized (node h (join f (tcons u b))) new_split (spliced-size front-stands y back-stands)

      pub spliced-there : {new : List ℕ} → Spliced old tree part fresh new → Stand new tree.begin (flatten (node h (join f (tcons u b)))) (part.begin + moved tree part fresh)
      spliced-there z = rw new_split (spliced-words front-stands y back-stands z)

-- the definition's test of what was gathered, said of words
pub limit-words : (n : ℕ) → leb (n * 6) (most_nodes * 6) ≡ leb n most_nodes
limit-words n = go (leb n most_nodes) refl
  where
    go : (b : Bool) → leb n most_nodes ≡ b → leb (n * 6) (most_nodes * 6) ≡ b
    go true e = let k = leb-true n most_nodes e in le-leb (n * 6) (most_nodes * 6) (omega arith)
    go false e = let k = leb-false n most_nodes e in lt-leb (n * 6) (most_nodes * 6) (omega arith)

-- find, then replace: the tree with its first part of that name replaced
module _ (old : List ℕ) (tree : Span) (h : Node) (ts : Trees) (x : Stand old tree.begin (flatten (node h ts)) tree.end)
    (name : ℕ) (part : Span) (q : place name (tree.begin + 6) ts ≡ Some part)
    (u : Tree) (fresh : Span) (y : Stand old fresh.begin (flatten u) fresh.end) where
  found : Named name (tree.begin + 6) ts part
  found = place-named name (tree.begin + 6) ts part q

  pub replaced-size : part.begin - tree.begin + moved tree part fresh ≡ nodes (node h (replaced name u ts)) * 6
  replaced-size = go found.front found.part found.back found.is found.begins found.ends (found.gives u)
    where
      go : (f : Trees) (p : Tree) (b : Trees) → ts ≡ join f (tcons p b) → part.begin ≡ tree.begin + 6 + 6 * nodes_in f → part.end ≡ part.begin + 6 * nodes p
          → replaced name u ts ≡ join f (tcons u b) → part.begin - tree.begin + moved tree part fresh ≡ nodes (node h (replaced name u ts)) * 6
      go f p b k i j v = rw v (grown-size old tree h f p b (rw k at x) part i j u fresh y)

  -- refusal 8 at a member
  pub replaced-limit : leb (part.begin - tree.begin + moved tree part fresh) (most_nodes * 6) ≡ leb (suc (nodes_in (replaced name u ts))) most_nodes
  unfolding nodes
  replaced-limit = rw replaced-size (limit-words (suc (nodes_in (replaced name u ts))))

  pub replaced-there : {new : List ℕ} → Spliced old tree part fresh new → Stand new tree.begin (flatten (node h (replaced name u ts))) (part.begin + moved tree part fresh)
  replaced-there {new} z = go found.front found.part found.back found.is found.begins found.ends (found.gives u)
    where
      go : (f : Trees) (p : Tree) (b : Trees) → ts ≡ join f (tcons p b) → part.begin ≡ tree.begin + 6 + 6 * nodes_in f → part.end ≡ part.begin + 6 * nodes p
          → replaced name u ts ≡ join f (tcons u b) → Stand new tree.begin (flatten (node h (replaced name u ts))) (part.begin + moved tree part fresh)
      go f p b k i j v = rw v (spliced-there old tree h f p b (rw k at x) part i j u fresh y z)

-- the leading values of an array give way to others: the definition's `filled`, and the test of `formed`
module _ (old : List ℕ) (tree : Span) (h : Node) (ts : Trees) (x : Stand old tree.begin (flatten (node h ts)) tree.end)
    (us : Trees) (part : Span) (i : part.begin ≡ tree.begin + 6) (b : Stand old part.end (flatten_all (rest (many us) ts)) tree.end)
    (fresh : Span) (y : Stand old fresh.begin (flatten_all us) fresh.end) where
  head-there : Stand old tree.begin (words_of (as_node h)) part.begin
  unfolding head
  head-there = rw i (head-stands old tree.begin (node h ts) tree.end x)

  filled-split : flatten (node h (filled ts us)) ≡ words_of (as_node h) ++ (flatten_all us ++ flatten_all (rest (many us) ts))
  unfolding flatten filled
  filled-split = rw flatten_all-join

  pub filled-limit : leb (part.begin - tree.begin + moved tree part fresh) (most_nodes * 6) ≡ leb (nodes (node h (filled ts us))) most_nodes
  filled-limit = rw (sized (node h (filled ts us)) filled-split (spliced-size head-there y b)) (limit-words (nodes (node h (filled ts us))))

  pub filled-there : {new : List ℕ} → Spliced old tree part fresh new → Stand new tree.begin (flatten (node h (filled ts us))) (part.begin + moved tree part fresh)
  filled-there z = rw filled-split (spliced-words head-there y b z)

-- the count in its head stays right
pub many-filled : (ts us : Trees) → many us ≤ many ts → many (filled ts us) ≡ many ts
unfolding filled
many-filled ts us h = rw (many-join us (rest (many us) ts), many-rest (many us) ts) (omega arith)

-- the same where the new tree takes the name: the definition's `assigned`
module _ (old : List ℕ) (tree : Span) (h : Node) (ts : Trees) (x : Stand old tree.begin (flatten (node h ts)) tree.end)
    (name : ℕ) (part : Span) (q : place name (tree.begin + 6) ts ≡ Some part)
    (u : Tree) (fresh : Span) (y : Stand old fresh.begin (flatten u) fresh.end) (o : tree.end ≤ fresh.begin) where
  there : renamed old fresh.begin name ≡ set old fresh.begin name
  there = rw (le-leb (fresh.begin + 6) (length old) (omega (arith, y.long, y.fits, flatten-length u, nodes-some u)))

  tree-kept : Stand (renamed old fresh.begin name) tree.begin (flatten (node h ts)) tree.end
  tree-kept = rw there (stand-kept x (set old fresh.begin name) fresh.begin (length-set old fresh.begin name) o (take-set-le fresh.begin old fresh.begin name (omega arith)))

  new-named : Stand (renamed old fresh.begin name) fresh.begin (flatten (named name u)) fresh.end
  new-named = named-there old fresh.begin u fresh.end name y there

  pub assigned-limit : leb (part.begin - tree.begin + moved tree part fresh) (most_nodes * 6) ≡ leb (suc (nodes_in (assigned name u ts))) most_nodes
  unfolding assigned
  assigned-limit = replaced-limit (renamed old fresh.begin name) tree h ts tree-kept name part q (named name u) fresh new-named

  pub assigned-there : {new : List ℕ} → Spliced (renamed old fresh.begin name) tree part fresh new
      → Stand new tree.begin (flatten (node h (assigned name u ts))) (part.begin + moved tree part fresh)
  unfolding assigned
  assigned-there z = replaced-there (renamed old fresh.begin name) tree h ts tree-kept name part q (named name u) fresh new-named z
