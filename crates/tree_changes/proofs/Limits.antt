-- What may be added or copied, decided of counts, is what the definition decides of trees. Assumes nothing.
use mathlib.Core.Path.{◌≡◌, refl, sym, ◌∙◌}
use mathlib.Core.Bool.{Bool, true, false}
use Prim.Native.Nat.{ℕ, zero, suc, ◌+◌, ◌-◌, ◌*◌, ◌^◌, ◌≤◌, ◌<◌}
use native.Mathlib.Omega.{arith}
use native.Mathlib.Nat.{zero-mul, add-zero, suc-mul}
use lib.Dec.{leb}
use mir.Syntax.{w64}
use mir.Val.{Fits}
use borrow.Author.Rules.{rules}
use borrow.Author.Tests.{leb-true}
use Rattle.std.specs.Prelude.{Ok, Err}
use Rattle.definition.specs.Base.{pick, choose}
use Rattle.definition.specs.Tree.{Trees, many, nodes_in, join, times, most_nodes}
use Rattle.definition.specs.Ask.{Result, ok, none, large, done, bind, ◌>>=◌, on_ok, give, nothing, gathered, and_more}
use Rattle.definition.specs.Parts.{added, copied}
use Rattle.tree_changes.specs.declared.limit.Misfit.{Misfit}
use Rattle.tree_changes.specs.declared.limit.Misfit.TheVariants.{TooMany, TooLarge}
use Rattle.tree_changes.specs.Limit.{Added, added_of, on_fits, copied_of}

-- what fits is counted
pub added-counts : (places made size values nodes : ℕ) {u : Unit {0}} → added_of places made size values nodes ≡ Ok u → (suc (size + nodes) ≤ most_nodes) × (made + values ≤ places)
unfolding added_of
added-counts places made size values nodes {u} e = go (leb (suc (size + nodes)) most_nodes) (leb (made + values) places) refl refl e
  where
    go : (b d : Bool) → leb (suc (size + nodes)) most_nodes ≡ b → leb (made + values) places ≡ d → pick b (pick d (Ok tt) (Err TooMany)) (Err TooLarge) ≡ Ok u
        → (suc (size + nodes) ≤ most_nodes) × (made + values ≤ places)
    go true true p q r = (leb-true (suc (size + nodes)) most_nodes p, leb-true (made + values) places q)
    go true false p q r = cc
    go false d p q r = cc

-- ---- the loop of `may_copy`: what is left comes to what the whole comes to
pub record Copying (times places made size values nodes i count gathered : ℕ) : Type 0 where
  pub same : copied_of (times - i) places count gathered values nodes ≡ copied_of times places made size values nodes

pub copying-first : (times places made size values nodes : ℕ) → Copying times places made size values nodes 0 made size
copying-first times places made size values nodes = let z : times - 0 ≡ times = omega arith in record { same = rw z }

module _ {times places made size values nodes i count gathered : ℕ} (g : Copying times places made size values nodes i count gathered) where
  pub copying-over : times ≤ i → Ok tt ≡ copied_of times places made size values nodes
  unfolding copied_of
  copying-over h = let z : times - i ≡ 0 = omega arith in rw z at g.same

  module _ (h : i < times) {r : Added} (q : r ≡ added_of places count gathered values nodes) where
    step : on_fits r (copied_of (times - (i + 1)) places (count + values) (gathered + nodes) values nodes) ≡ copied_of times places made size values nodes
    unfolding copied_of
    step = let n : times - i ≡ suc (times - (i + 1)) = omega arith in rw q (rw n at g.same)

    pub copying-ends : {m : Misfit} → r ≡ Err m → Err m ≡ copied_of times places made size values nodes
    copying-ends j = rw j at step

    pub copying-on : {u : Unit {0}} → r ≡ Ok u → Copying times places made size values nodes (i + 1) (count + values) (gathered + nodes)
    copying-on j = record { same = rw j at step }

pub count_fits : (places made size values nodes : ℕ) {r : Added} {u : Unit {0}} → r ≡ added_of places made size values nodes → r ≡ Ok u → places < 2 ^ 64 → Fits w64 (made + values)
count_fits places made size values nodes q i h = let z = added-counts places made size values nodes (sym q ∙ i) in record { fits = omega (arith, z.1) }

pub size_fits : (places made size values nodes : ℕ) {r : Added} {u : Unit {0}} → r ≡ added_of places made size values nodes → r ≡ Ok u → Fits w64 (size + nodes)
size_fits places made size values nodes q i = let z = added-counts places made size values nodes (sym q ∙ i) in record { fits = omega (arith, z.0) }

pub ruleset copyings = (rules, copying-first, copying-over, copying-ends, copying-on, count_fits, size_fits)

-- ---- the definition's answers
-- the values, or why there are none
abbrev pub outcome_of : Added → Trees → Result Trees
outcome_of (Ok u) ts = ok ts
outcome_of (Err TooMany) ts = none
outcome_of (Err TooLarge) ts = large

pub added_is : (places made size : ℕ) (ts : Trees) → added places made size ts ≡ done (outcome_of (added_of places made size (many ts) (nodes_in ts)) ts)
unfolding added gathered ◌>>=◌ bind give nothing added_of
added_is places made size ts = go (leb (suc (size + nodes_in ts)) most_nodes) (leb (made + many ts) places) refl
  where
    go : (b d : Bool) → leb (made + many ts) places ≡ d
        → bind (choose b (λ u. done (ok ts)) (λ u. done large)) (on_ok (λ us. pick (leb (made + many us) places) (give us) nothing))
        ≡ done (outcome_of (pick b (pick (leb (made + many ts) places) (Ok tt) (Err TooMany)) (Err TooLarge)) ts)
    go true true e = rw e
    go true false e = rw e
    go false d e = refl

pub copied_is : (k places made size : ℕ) (ts : Trees) → copied k ts places made size ≡ done (outcome_of (copied_of k places made size (many ts) (nodes_in ts)) (times k ts))
unfolding copied copied_of times and_more ◌>>=◌ bind give
copied_is zero places made size ts = refl
copied_is (suc k) places made size ts =
    rw (added_is places made size ts)
    (go (added_of places made size (many ts) (nodes_in ts)) (copied_of k places (made + many ts) (size + nodes_in ts) (many ts) (nodes_in ts)) (copied_is k places (made + many ts) (size + nodes_in ts) ts))
  where
    go : (a b : Added) → copied k ts places (made + many ts) (size + nodes_in ts) ≡ done (outcome_of b (times k ts))
        → bind (done (outcome_of a ts)) (on_ok (λ us. bind (copied k ts places (made + many us) (size + nodes_in us)) (on_ok (λ vs. give (join us vs)))))
        ≡ done (outcome_of (on_fits a b) (join ts (times k ts)))
    go (Ok u) (Ok v) e = rw e
    go (Ok u) (Err TooMany) e = rw e
    go (Ok u) (Err TooLarge) e = rw e
    go (Err TooMany) b e = refl
    go (Err TooLarge) b e = refl

-- copies that fit have few enough nodes for `repeat`
pub copied-small : (k places made size values nodes : ℕ) {u : Unit {0}} → suc size ≤ most_nodes → copied_of k places made size values nodes ≡ Ok u → suc (size + k * nodes) ≤ most_nodes
unfolding copied_of
copied-small zero places made size values nodes h e = rw (zero-mul nodes, add-zero size) h
copied-small (suc k) places made size values nodes {u} h e =
    go (added_of places made size values nodes) refl e (copied-small k places (made + values) (size + nodes) values nodes)
  where
    left : Added
    left = copied_of k places (made + values) (size + nodes) values nodes

    go : (a : Added) → added_of places made size values nodes ≡ a → on_fits a left ≡ Ok u
        → (suc (size + nodes) ≤ most_nodes → left ≡ Ok u → suc (size + nodes + k * nodes) ≤ most_nodes)
        → suc (size + suc k * nodes) ≤ most_nodes
    go (Ok v) q r more_left = let i = more_left (added-counts places made size values nodes q).0 r in rw (suc-mul k nodes) (omega (arith, i))
    go (Err m) q r more_left = cc
