-- Values that are gathered one entry after another: what is there so far, and what is left. Assumes nothing.
use mathlib.Core.Path.{◌≡◌, refl, ap, sym, ◌∙◌}
use mathlib.Core.List.{List, []}
use Prim.Native.Nat.{ℕ, zero, suc, ◌+◌, ◌*◌, ◌≤◌, ◌<◌}
use native.Mathlib.Omega.{arith}
use native.Mathlib.Nat.{add-zero}
use borrow.Author.Rules.{rules}
use borrow.Author.Tests.{le-leb, lt-leb}
use lib.ListN.{length, take}
use Rattle.definition.specs.Tree.{Tree, Trees, tnil, tcons, many, nodes, nodes_in, flatten_all, join, one, rest, most_nodes}
use Rattle.definition.specs.Ask.{Result, ok, none, large, Ask, ◌>>=◌, give, nothing, and_more}
use Rattle.definition.specs.Parts.{on_first, added, defaulted}
use Rattle.definition.specs.Resolve.{Memo}
use Rattle.definition.specs.Peek.{Peek, got, wants, peek}
use Rattle.laws.specs.Gathers.{Gathered}
use Rattle.laws.specs.Steps.{peek-done, peek-give, peek-nothing, peek-ok, peek-none, peek-large, peek-wanted}
use Rattle.laws.specs.Whole.{Goods, flatten_all-join, nodes_in-join, many-join, goods-join, many-one}
use Rattle.tree.specs.Words.{Stand}
use Rattle.tree_changes.specs.Limit.{added_of}
use Rattle.tree_changes.proofs.Limits.{added_is, outcome_of}
use Rattle.tree.proofs.Stands.{stand-append, stand-kept, rest-stand}
use Rattle.build.specs.declared.built.Unbuilt.{Unbuilt}
use Rattle.build.proofs.Gathers.{join-nil}
use Rattle.build.specs.declared.built.Unbuilt.TheVariants as unbuilt
use Rattle.gather.specs.declared.answers.Listed.{Listed}
use Rattle.gather.specs.declared.answers.Filling.{Filling}
use Rattle.gather.specs.Answers.{Listing, listed, stopped, ListThere, Lists, Filled}
use Rattle.gather.specs.Room.{Defaults, Fillable}
use Rattle.gather.specs.Copies.{MovesOn, NextDefault, EachDefault, PushesDefaults}
use Rattle.gather.proofs.Onward.{take_less, peek-stops, lists-as}
use Rattle.std.specs.Prelude.{Err, Ok}
use Rattle.tree_changes.specs.declared.limit.Misfit.TheVariants as misfit
use Rattle.tree_changes.specs.Limit.{Added}

-- ---- values behind others
abbrev behind_result : Trees → Result Trees → Peek (Result Trees)
behind_result vs (ok us) = got (ok (join vs us))
behind_result vs none = got none
behind_result vs large = got large

abbrev pub behind : Trees → Peek (Result Trees) → Peek (Result Trees)
behind vs (got r) = behind_result vs r
behind vs (wants d) = wants d

join-assoc : (ts us vs : Trees) → join ts (join us vs) ≡ join (join ts us) vs
unfolding join
join-assoc tnil us vs = refl
join-assoc (tcons t ts) us vs = ap (tcons t) (join-assoc ts us vs)

behind-stopped : (vs : Trees) (u : Unbuilt) → behind vs (stopped u) ≡ stopped u
behind-stopped vs unbuilt.None = refl
behind-stopped vs unbuilt.TooLarge = refl
behind-stopped vs (unbuilt.Wanted d) = refl

behind-nil : (p : Peek (Result Trees)) → behind tnil p ≡ p
unfolding join
behind-nil (got (ok us)) = refl
behind-nil (got none) = refl
behind-nil (got large) = refl
behind-nil (wants d) = refl

behind-join : (vs ts : Trees) (p : Peek (Result Trees)) → behind vs (behind ts p) ≡ behind (join vs ts) p
behind-join vs ts (got (ok us)) = ap (λ z. got (ok z)) (join-assoc vs ts us)
behind-join vs ts (got none) = refl
behind-join vs ts (got large) = refl
behind-join vs ts (wants d) = refl

module _ (M : Memo) where
  joins : (ts : Trees) (m : Ask (Result Trees)) → peek M (m >>= λ us. give (join ts us)) ≡ behind ts (peek M m)
  joins ts m = go (peek M m) refl
    where
      go : (p : Peek (Result Trees)) → peek M m ≡ p → peek M (m >>= λ us. give (join ts us)) ≡ behind ts p
      go (got (ok us)) e = peek-ok M m (λ us. give (join ts us)) us e ∙ peek-give M (join ts us)
      go (got none) e = peek-none M m (λ us. give (join ts us)) e
      go (got large) e = peek-large M m (λ us. give (join ts us)) e
      go (wants d) e = peek-wanted M m (λ us. give (join ts us)) d e

  module _ (made size : ℕ) (some : Ask (Result Trees)) (next : ℕ → ℕ → Ask (Result Trees)) where
    pub more-ok : (ts : Trees) → peek M some ≡ got (ok ts) → peek M (and_more made size some next) ≡ behind ts (peek M (next (made + many ts) (size + nodes_in ts)))
    unfolding and_more
    more-ok ts e = peek-ok M some (λ ts. next (made + many ts) (size + nodes_in ts) >>= λ us. give (join ts us)) ts e ∙ joins ts (next (made + many ts) (size + nodes_in ts))

    pub more-stops : (u : Unbuilt) → peek M some ≡ stopped u → peek M (and_more made size some next) ≡ stopped u
    unfolding and_more
    more-stops u e = peek-stops M some (λ ts. next (made + many ts) (size + nodes_in ts) >>= λ us. give (join ts us)) u e

-- ---- so far
pub record SoFar (M : Memo) (whole left : Ask (Result Trees)) (l : Filling) (old : List ℕ) (at to made size : ℕ) (s : List ℕ) : Type 0 where
  pub kept : take at s ≡ take at old
  pub values : Trees
  pub goes : peek M whole ≡ behind values (peek M left)
  pub ends : to ≡ at + 6 * nodes_in values
  pub counts : made ≡ l.made + many values
  pub sizes : size ≡ l.size + nodes_in values
  pub stands : Stand s at (flatten_all values) to
  pub small : Gathered l.size values
  pub few : made ≤ l.places

stand-none : (s : List ℕ) (at : ℕ) → at ≤ length s → Stand s at [] at
stand-none s at h = rw add-zero at (rest-stand s at [] _ h refl)

module _ (M : Memo) (whole : Ask (Result Trees)) (l : Filling) (old : List ℕ) (at : ℕ) where
  pub so-far-none : at ≤ length old → l.made ≤ l.places → suc l.size ≤ most_nodes → SoFar M whole whole l old at at l.made l.size old
  unfolding many nodes flatten_all Goods
  so-far-none h f n =
      record {
        kept = refl;
        values = tnil;
        goes = sym (behind-nil (peek M whole));
        ends = omega arith;
        counts = omega arith;
        sizes = omega arith;
        stands = stand-none old at h;
        small = record { whole = tt; room = omega arith };
        few = f;
      }

  module _ {left : Ask (Result Trees)} {to made size : ℕ} {s : List ℕ} (y : SoFar M whole left l old at to made size s)
      (some : Ask (Result Trees)) (next : ℕ → ℕ → Ask (Result Trees)) (q : peek M left ≡ peek M (and_more made size some next))
      (i : Filling) (im : i.made ≡ made) (is : i.size ≡ size) (ip : i.places ≡ l.places) (s' : List ℕ) where
    pub so_far_more : {e m n : ℕ} → ListThere M some i to e m n s' → take to s' ≡ take to s → length s' ≡ length s → SoFar M whole (next m n) l old at e m n s'
    so_far_more {e} {m} {n} t k g =
        let a : made + many t.trees ≡ m = omega (arith, t.counts) in
        let b : size + nodes_in t.trees ≡ n = omega (arith, t.sizes) in
        let c = many-join y.values t.trees in
        let d = nodes_in-join y.values t.trees in
        record {
          kept = take_less s' s at to (omega (arith, y.ends)) k ∙ y.kept;
          values = join y.values t.trees;
          goes =
              y.goes ∙ ap (behind y.values) (q ∙ more-ok M made size some next t.trees t.is) ∙ behind-join y.values t.trees (peek M (next (made + many t.trees) (size + nodes_in t.trees)))
              ∙ ap (λ z. behind (join y.values t.trees) (peek M (next z (size + nodes_in t.trees)))) a
              ∙ ap (λ z. behind (join y.values t.trees) (peek M (next m z))) b;
          ends = omega (arith, y.ends, t.ends);
          counts = omega (arith, y.counts, t.counts);
          sizes = omega (arith, y.sizes, t.sizes);
          stands = rw flatten_all-join (stand-append (stand-kept y.stands s' to g (omega arith) k) t.stands);
          small = record { whole = goods-join y.values t.trees y.small.whole t.small.whole; room = omega (arith, t.small.room, y.sizes) };
          few = omega (arith, t.few);
        }

    -- what `?` hands on
    pub so-far-fails : {u : Unbuilt} → Lists M some i to (Err u) s' → take to s' ≡ take to s → {r : Listing} → r ≡ Err u → Filled M whole l old at r s'
    so-far-fails {u} t k {r} p =
        rw p (record {
          kept = take_less s' s at to (omega (arith, y.ends)) k ∙ y.kept;
          lists = y.goes ∙ ap (behind y.values) (q ∙ more-stops M made size some next u t) ∙ behind-stopped y.values u;
        })

  pub so-far-all : {left : Ask (Result Trees)} {to made size : ℕ} {s : List ℕ} → SoFar M whole left l old at to made size s → left ≡ give tnil → Filled M whole l old at (listed to made size) s
  so-far-all y q =
      record {
        kept = y.kept;
        lists = record {
          trees = y.values;
          is = y.goes ∙ ap (λ m. behind y.values (peek M m)) q ∙ ap (behind y.values) (peek-give M tnil) ∙ ap (λ z. got (ok z)) (join-nil y.values);
          ends = y.ends;
          counts = y.counts;
          sizes = y.sizes;
          stands = y.stands;
          small = y.small;
          few = y.few;
        };
      }

-- ---- `each_default`
rest-next : (i : ℕ) (ds : Trees) (t : Tree) (us : Trees) → rest i ds ≡ tcons t us → rest (suc i) ds ≡ us
unfolding rest
rest-next zero tnil t us e = let z : ◌≡◌ {A = ℕ} 0 1 = cc in absurd (omega arith)
rest-next zero (tcons u ds) t us e = cc
rest-next (suc i) tnil t us e = let z : ◌≡◌ {A = ℕ} 0 1 = cc in absurd (omega arith)
rest-next (suc i) (tcons u ds) t us e = rest-next i ds t us e

added-same : (M : Memo) (p m s : ℕ) (ts us : Trees) → peek M (added p m s ts) ≡ got (ok us) → us ≡ ts
added-same M p m s ts us e = go (added_of p m s (many ts) (nodes_in ts)) (sym (ap (peek M) (added_is p m s ts) ∙ peek-done M _) ∙ e)
  where
    go : (a : Added) → got (outcome_of a ts) ≡ got (ok us) → us ≡ ts
    go (Ok u) q = cc
    go (Err misfit.TooMany) q = let z : ◌≡◌ {A = ℕ} 0 1 = cc in absurd (omega arith)
    go (Err misfit.TooLarge) q = let z : ◌≡◌ {A = ℕ} 0 1 = cc in absurd (omega arith)

pub never-ok : (M : Memo) (ts : Trees) → peek M nothing ≡ got (ok ts) → ⊥
never-ok M ts e = let q : got none ≡ got (ok ts) = sym (peek-nothing M) ∙ e in let z : ◌≡◌ {A = ℕ} 0 1 = cc in omega arith

module _ (places made size : ℕ) (M : Memo) (n : ℕ) where
  next-is : (t : Tree) (us vs : Trees) → vs ≡ tcons t us → peek M (defaulted (suc n) vs places made size) ≡ peek M (and_more made size (added places made size (one t)) (defaulted n us places))
  unfolding defaulted
  next-is t us vs q = rw q

  last-is : (vs : Trees) → vs ≡ tnil → peek M (defaulted (suc n) vs places made size) ≡ got none
  unfolding defaulted
  last-is vs q = rw q (peek-nothing M)

pub defaults-kept : {s : List ℕ} {from made places : ℕ} {ds : Trees} {at : ℕ} → Defaults s from made places ds at → (s' : List ℕ) (to : ℕ) → at ≤ to → length s' ≡ length s → take at s' ≡ take at s
    → Defaults s' from made places ds to
defaults-kept {at = at} d s' to h g k =
    record { end = d.end; stands = stand-kept d.stands s' at g d.before k; before = omega (arith, d.before); whole = d.whole; count = d.count }

-- the array with so many values, where the default of the next place stands at `from`
abbrev pub now_at : Filling → ℕ → ℕ → ℕ → Filling
now_at l from made size = record { from = from; places = l.places; made = made; size = size }

-- values so far, and the defaults of the places that have none yet
pub record Along (M : Memo) (whole left : Ask (Result Trees)) (l : Filling) (old : List ℕ) (at : ℕ) (ds : Trees) (from to made size : ℕ) (s : List ℕ) : Type 0 where
  pub far : SoFar M whole left l old at to made size s
  pub next : Defaults s from made l.places ds at

module _ {M : Memo} {whole left : Ask (Result Trees)} {l : Filling} {old : List ℕ} {at : ℕ} {ds : Trees} {from to made size : ℕ} {s : List ℕ}
    (y : Along M whole left l old at ds from to made size s) where
  pub along-ready : (need : ℕ) → to + need ≤ length s → Fillable s (now_at l from made size) to need ds
  along-ready need h =
      record {
        defaults = defaults-kept y.next s to (omega (arith, y.far.ends)) refl refl;
        few = y.far.few;
        small = omega (arith, y.far.small.room, y.far.sizes);
        room = h;
      }

  pub along-next : {some : Ask (Result Trees)} {e m n : ℕ} {new : List ℕ} → ListThere M some (now_at l from made size) to e m n new → take to new ≡ take to s → length new ≡ length s
      → {from' : ℕ} → MovesOn new from made m from' → Defaults new from' m l.places ds at
  along-next {some} {e} {m} {n} {new} t k g v =
      v.says l.places ds at (defaults-kept y.next new at (omega arith) g (take_less new s at to (omega (arith, y.far.ends)) k)) (omega (arith, t.counts)) (omega (arith, t.few))

pub record EachInv (k : ℕ) (l : Filling) (old : List ℕ) (at left : ℕ) (now : Filling) (to : ℕ) (s : List ℕ) : Type 0 where
  pub long : length s ≡ length old
  pub places : now.places ≡ l.places
  pub says : (M : Memo) (ds : Trees) → Fillable old l at 12288 ds
      → Along M (defaulted k (rest l.made ds) l.places l.made l.size) (defaulted left (rest now.made ds) l.places now.made now.size) l old at ds now.from to now.made now.size s

pub each_first : (k : ℕ) (l : Filling) (old : List ℕ) (at : ℕ) → {left : ℕ} → left ≡ k → EachInv k l old at left l at old
each_first k l old at e =
    rw e (record {
      long = refl;
      places = refl;
      says = λ M ds y.
          record {
            far = so-far-none M (defaulted k (rest l.made ds) l.places l.made l.size) l old at (omega (arith, y.room)) y.few y.small;
            next = y.defaults;
          };
    })

next-as : {i j : Filling} {s : List ℕ} {to : ℕ} {r : Listing} {new : List ℕ} → i ≡ j → NextDefault i s to r new → NextDefault j s to r new
next-as e w = rw e at w

module _ {k : ℕ} {l : Filling} {old : List ℕ} {at left : ℕ} {now : Filling} {to : ℕ} {s : List ℕ} (y : EachInv k l old at left now to s) where
  pub each_all : left ≡ 0 → EachDefault k l old at (listed to now.made now.size) s
  unfolding defaulted
  each_all e = record { says = λ M ds z. so-far-all M _ l old at (y.says M ds z).far (ap (λ n. defaulted n (rest now.made ds) l.places now.made now.size) e) }

  as_now : now ≡ now_at l now.from now.made now.size
  as_now = ap (λ (p : ℕ). now_at (record { from = 0; places = p; made = 0; size = 0 }) now.from now.made now.size) y.places

  module _ {more : ℕ} (h : left ≡ suc more) {b : Listing} {new : List ℕ} (x : NextDefault now s to b new) where
    w : NextDefault (now_at l now.from now.made now.size) s to b new
    w = next-as as_now x

    each-ready : {ds : Trees} → Fillable old l at 12288 ds → (M : Memo) → Fillable s (now_at l now.from now.made now.size) to 0 ds × (to + 12282 ≤ length s + 6 * now.size)
    each-ready {ds} z M =
        let f = (y.says M ds z).far in (
          along-ready (y.says M ds z) 0 (omega (arith, f.small.room, f.ends, z.room, y.long)),
          omega (arith, f.ends, f.sizes, z.room, y.long),
        )

    -- a step, by what is left
    step_is : (M : Memo) (t : Tree) (us ds : Trees) → rest now.made ds ≡ tcons t us
        → peek M (defaulted left (rest now.made ds) l.places now.made now.size) ≡ peek M (and_more now.made now.size (added l.places now.made now.size (one t)) (defaulted more us l.places))
    step_is M t us ds q = ap (λ n. peek M (defaulted n (rest now.made ds) l.places now.made now.size)) h ∙ next-is l.places now.made now.size M more t us (rest now.made ds) q

    none_is : (M : Memo) (ds : Trees) → rest now.made ds ≡ tnil → peek M (defaulted left (rest now.made ds) l.places now.made now.size) ≡ got none
    none_is M ds q = ap (λ n. peek M (defaulted n (rest now.made ds) l.places now.made now.size)) h ∙ last-is l.places now.made now.size M more (rest now.made ds) q

    -- what `?` hands on
    pub each-fails : {u : Unbuilt} → b ≡ Err u → {r : Listing} → r ≡ Err u → EachDefault k l old at r new
    each-fails {u} j {r} p =
        record { says = λ M ds z. go M ds z (rest now.made ds) refl (lists-as M _ (now_at l now.from now.made now.size) to new j (w.says M ds (each-ready z M).0 (each-ready z M).1)) }
      where
        go : (M : Memo) (ds : Trees) → Fillable old l at 12288 ds → (us : Trees) → rest now.made ds ≡ us
            → Lists M (on_first us (λ t ts. added l.places now.made now.size (one t))) (now_at l now.from now.made now.size) to (Err u) new
            → Filled M (defaulted k (rest l.made ds) l.places l.made l.size) l old at r new
        go M ds z tnil e t =
            so-far-fails M _ l old at (y.says M ds z).far nothing (λ m n. nothing) (none_is M ds e ∙ sym (more-stops M now.made now.size nothing (λ m n. nothing) unbuilt.None (peek-nothing M)))
            (now_at l now.from now.made now.size) refl refl refl new t w.kept p
        go M ds z (tcons u us) e t =
            so-far-fails M _ l old at (y.says M ds z).far (added l.places now.made now.size (one u)) (defaulted more us l.places) (step_is M u us ds e)
            (now_at l now.from now.made now.size) refl refl refl new t w.kept p

    pub each_more : {v : Listed} → b ≡ Ok v → length new ≡ length s → {from' : ℕ} → MovesOn new now.from now.made v.made from' → EachInv k l old at more (now_at l from' v.made v.size) v.end new
    each_more {v} j g f =
        record {
          long = g ∙ y.long;
          places = refl;
          says = λ M ds z.
              let t = lists-as M _ (now_at l now.from now.made now.size) to new j (w.says M ds (each-ready z M).0 (each-ready z M).1) in
              record { far = go M ds z (rest now.made ds) refl t; next = along-next (y.says M ds z) t w.kept g f };
        }
      where
        go : (M : Memo) (ds : Trees) → Fillable old l at 12288 ds → (us : Trees) → rest now.made ds ≡ us
            → ListThere M (on_first us (λ t ts. added l.places now.made now.size (one t))) (now_at l now.from now.made now.size) to v.end v.made v.size new
            → SoFar M (defaulted k (rest l.made ds) l.places l.made l.size) (defaulted more (rest v.made ds) l.places v.made v.size) l old at v.end v.made v.size new
        go M ds z tnil q t = absurd (never-ok M t.trees t.is)
        go M ds z (tcons u us) q t =
            let i = added-same M l.places now.made now.size (one u) t.trees t.is in
            let a : suc now.made ≡ v.made = omega (arith, t.counts, ap many i, many-one u) in
            let b : rest v.made ds ≡ us = ap (λ x. rest x ds) (sym a) ∙ rest-next now.made ds u us q in
            rw b (so_far_more M _ l old at (y.says M ds z).far (added l.places now.made now.size (one u)) (defaulted more us l.places) (step_is M u us ds q)
            (now_at l now.from now.made now.size) refl refl refl new t w.kept g)

-- the array as `moved_on` leaves it
pub each_on : {k : ℕ} {l : Filling} {old : List ℕ} {at left : ℕ} {now : Filling} {to : ℕ} {s : List ℕ} (y : EachInv k l old at left now to s) {more : ℕ} (h : left ≡ suc more) {b : Listing} {new : List ℕ}
    (x : NextDefault now s to b new) {v : Listed} → b ≡ Ok v → length new ≡ length s → {then : Filling} → then ≡ record { from = then.from; places = now.places; made = v.made; size = v.size }
    → MovesOn new now.from now.made v.made then.from → EachInv k l old at more then v.end new
each_on {l = l} {now = now} y h x {v} j g {then} e f =
    let z : now_at l then.from v.made v.size ≡ then = ap (λ (p : ℕ). now_at (record { from = 0; places = p; made = 0; size = 0 }) then.from v.made v.size) (sym y.places) ∙ sym e in
    rw z at (each_more y h x j g f)

-- ---- `push_defaults`
module _ (k : ℕ) {l : Filling} {old : List ℕ} {at : ℕ} where
  pub defaults-each : k ≤ l.places → {r : Listing} {new : List ℕ} → EachDefault k l old at r new → PushesDefaults k l old at r new
  defaults-each h {r} {new} w = record { says = λ M ds z. rw (z.defaults.count, le-leb k l.places h) (w.says M ds z) }

  pub defaults-many : l.places < k → PushesDefaults k l old at (Err unbuilt.None) old
  defaults-many h = record { says = λ M ds z. rw (z.defaults.count, lt-leb k l.places h) (record { kept = refl; lists = peek-nothing M }) }

pub ruleset laws = (rules, each_first, each_all, each-fails, each_more, defaults-each, defaults-many)
