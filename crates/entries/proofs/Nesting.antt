-- Structures, arrays and runs: the other returns of entries.rt. Assumes nothing.
use borrow.Enum.Refused.{opened}
use mathlib.Core.Path.{◌≡◌, refl, ap, sym, ◌∙◌}
use mathlib.Core.List.{List}
use Prim.Native.Nat.{ℕ, suc, ◌+◌, ◌-◌, ◌*◌, ◌≤◌, ◌<◌}
use native.Mathlib.Omega.{arith}
use borrow.Author.Rules.{rules}
use borrow.Author.Tests.{eq-eqb, ne_eqb}
use lib.ListN.{length}
use Rattle.definition.specs.declared.records.Place.{Place}
use Rattle.definition.specs.Layout.{count, entries}
use Rattle.definition.specs.Syntax.{Init, Inits, init_at, inits_at}
use Rattle.definition.specs.Tree.{Tree, Trees, tnil, tcons, head, parts, many, one, rest}
use Rattle.definition.specs.Ask.{Result, ok, none, large, Outcome, Ask, ◌>>=◌, and_more}
use Rattle.definition.specs.Parts.{on_fields, added}
use Rattle.definition.specs.Defaults as Defaults
use Rattle.definition.specs.Starting.{expand}
use Rattle.definition.specs.Starting as Defs
use Rattle.definition.specs.Resolve.{Memo}
use Rattle.definition.specs.Peek.{got, wants, peek}
use Rattle.definition.specs.Depth.{entry_depth}
use Rattle.laws.specs.Accepted.{Accepted}
use Rattle.laws.specs.Decoded.{inits-none, inits-next}
use Rattle.laws.specs.Depths.{deepest-at, entry-depth-least}
use Rattle.laws.specs.Gathers.{Gathered, gathered-rest, gathered-parts}
use Rattle.laws.specs.Steps.{peek-nothing, peek-ok, peek-none, peek-large, peek-wanted}
use Rattle.laws.specs.Whole.{Good, Goods}
use Rattle.std.specs.Prelude.{Err, Ok}
use Rattle.build.specs.declared.built.Unbuilt.{Unbuilt}
use Rattle.build.specs.declared.built.Unbuilt.TheVariants as unbuilt
use Rattle.gather.specs.declared.answers.Listed.{Listed}
use Rattle.gather.specs.declared.answers.Filling.{Filling}
use Rattle.gather.specs.Answers.{Listing, listed, Filled}
use Rattle.build.specs.Built.{Built, Memory, Ready}
use Rattle.gather.specs.Room.{shapes_deep, rooms, Fillable}
use Rattle.gather.specs.Leaves.{pushed, PushesTree}
use Rattle.gather.specs.Copies.{Taken, TakesFirst, CopiesDefault, MovesOn}
use Rattle.entries.specs.Entries.{run_depth, DefaultsThere, RunThere, FieldsThere, Expands, ExpandsStructure, ExpandsAll, Applies}
use Rattle.gather.proofs.Onward.{lists-as, lists-same}
use Rattle.gather.proofs.Copying.{next-few}
use Rattle.gather.proofs.Gathering.{so-far-none, so_far_more, so-far-fails, so-far-all, now_at, Along, along-ready, along-next}
use Rattle.entries.proofs.Entering.{fillable-less}

-- ---- `push_structure`
pub fields-some : (M : Memo) (t : Tree) (go : Trees → Ask Outcome) → (head t).kind ≡ 14 → peek M (on_fields t go) ≡ peek M (go (parts t))
fields-some M t go e = rw (eq-eqb (head t).kind 14 e)

pub fields-none : (M : Memo) (t : Tree) (go : Trees → Ask Outcome) → ((head t).kind ≡ 14 → ⊥) → peek M (on_fields t go) ≡ got none
fields-none M t go e = rw (ne_eqb (head t).kind 14 e) (peek-nothing M)

-- what comes to the same goes on the same
pub then_same : {A B : Type 0} (M : Memo) (m n : Ask (Result A)) (go : A → Ask (Result B)) → peek M m ≡ peek M n → peek M (m >>= go) ≡ peek M (n >>= go)
then_same M m n go e = step (peek M n) refl
  where
    step : (p : _) → peek M n ≡ p → peek M (m >>= go) ≡ peek M (n >>= go)
    step (got (ok a)) q = peek-ok M m go a (e ∙ q) ∙ sym (peek-ok M n go a q)
    step (got none) q = peek-none M m go (e ∙ q) ∙ sym (peek-none M n go q)
    step (got large) q = peek-large M m go (e ∙ q) ∙ sym (peek-large M n go q)
    step (wants d) q = peek-wanted M m go d (e ∙ q) ∙ sym (peek-wanted M n go d q)

-- a structure entry, over the first of the defaults that are left
module _ (M : Memo) (f : List ℕ) (is : Inits) (leaf : Place) (l : Filling) (ds : Trees) (n : many ds ≡ l.places) where
  structure-first : (t : Tree) (us : Trees) → rest l.made ds ≡ tcons t us
      → peek M (expand f (Init.structure is) leaf ds l.made l.size) ≡ peek M (pushed l (on_fields t (λ fields. Defs.members f is leaf fields)))
  unfolding Defaults.expand
  structure-first t us q = rw (q, n)

  structure-last : rest l.made ds ≡ tnil → peek M (expand f (Init.structure is) leaf ds l.made l.size) ≡ got none
  unfolding Defaults.expand
  structure-last q = rw q (peek-nothing M)

first_good : (k : ℕ) (ds : Trees) → Gathered 0 ds → (t : Tree) (us : Trees) → rest k ds ≡ tcons t us → Good t
unfolding Good
first_good k ds g t us q = let h : Goods (tcons t us) = rw q at (gathered-rest k ds g).whole in h.0

module _ (f known store : List ℕ) (first many : ℕ) (leaf : Place) (l : Filling) (old : List ℕ) (at : ℕ) {mid : List ℕ} where
  module _ {b : Built} (c : CopiesDefault l old at b mid) {end : ℕ} (q : b ≡ Ok end) (g : length mid ≡ length old) {r : Built} {new : List ℕ} (w : Applies f known store first many leaf mid at end r new)
      {r' : Listing} (z : PushesTree r l at r') where
    pub structure-pushed : ExpandsStructure f known store first many leaf l old at r' new
    structure-pushed = record { says = λ M k ds y. go M k ds y (rest l.made ds) refl (c.says ds (fillable-less y 12288 (omega arith))) }
      where
        go : (M : Memo) → Memory f known store M → (ds : Trees) → Fillable old l at (rooms f (run_depth f first many)) ds → (us : Trees) → rest l.made ds ≡ us → TakesFirst us at b mid
            → Filled M (expand f (Init.structure (inits_at f first many)) leaf ds l.made l.size) l old at r' new
        go M k ds y tnil e h = let n : ◌≡◌ {A = ℕ} 0 1 = cc in absurd (omega arith)
        go M k ds y (tcons t us) e h =
            let d : Taken t at end mid = rw q at h in
            let y' = fillable-less y 12288 (omega arith) in
            let v = w.says M k (parts t)
            (record { stands = d.stands; whole = gathered-parts t (first_good l.made ds y.defaults.whole t us e) (next-few y' t us e); room = omega (arith, y.room) }) in
            let ms = Defs.members f (inits_at f first many) leaf in
            record {
              kept = v.kept ∙ c.kept;
              lists =
                  lists-same M (pushed l (ms (parts t))) (expand f (Init.structure (inits_at f first many)) leaf ds l.made l.size) l at r' new
                  (structure-first M f (inits_at f first many) leaf l ds y.defaults.count t us e
                  ∙ then_same M (on_fields t (λ fields. ms fields)) (ms (parts t)) (λ t. added l.places l.made l.size (one t)) (fields-some M t (λ fields. ms fields) d.kind))
                  (z.says M (ms (parts t)) new v.builds);
            }

  -- what `?` hands on
  pub structure-fails : {u : Unbuilt} → CopiesDefault l old at (Err u) mid → {r : Listing} → r ≡ Err u → ExpandsStructure f known store first many leaf l old at r mid
  structure-fails {u} c q = rw q (record { says = λ M k ds y. go M ds y (rest l.made ds) refl u (c.says ds (fillable-less y 12288 (omega arith))) })
    where
      go : (M : Memo) (ds : Trees) → Fillable old l at (rooms f (run_depth f first many)) ds → (us : Trees) → rest l.made ds ≡ us → (u : Unbuilt) → TakesFirst us at (Err u) mid
          → Filled M (expand f (Init.structure (inits_at f first many)) leaf ds l.made l.size) l old at (Err u) mid
      go M ds y tnil e unbuilt.None h = record { kept = c.kept; lists = structure-last M f (inits_at f first many) leaf l ds y.defaults.count e }
      go M ds y tnil e unbuilt.TooLarge h = let n : ◌≡◌ {A = ℕ} 0 1 = cc in absurd (omega arith)
      go M ds y tnil e (unbuilt.Wanted d) h = let n : ◌≡◌ {A = ℕ} 0 1 = cc in absurd (omega arith)
      go M ds y (tcons t us) e unbuilt.None h =
          let ms = Defs.members f (inits_at f first many) leaf in
          record {
            kept = c.kept;
            lists =
                structure-first M f (inits_at f first many) leaf l ds y.defaults.count t us e
                ∙ peek-none M (on_fields t (λ fields. ms fields)) (λ t. added l.places l.made l.size (one t)) (fields-none M t (λ fields. ms fields) h);
          }
      go M ds y (tcons t us) e unbuilt.TooLarge h = absurd h
      go M ds y (tcons t us) e (unbuilt.Wanted d) h = absurd h

-- what stands for its call
pub default-there : (f : List ℕ) (n : ℕ) {l : Filling} {old : List ℕ} {at : ℕ} {b : Built} {mid : List ℕ} → CopiesDefault l old at b mid → {end : ℕ} → b ≡ Ok end → length mid ≡ length old
    → DefaultsThere old l at (rooms f n) → FieldsThere mid at end (rooms f n)
default-there f n {l} {old} {at} {b} {mid} c {end} q g y = go (rest l.made y.trees) refl (c.says y.trees (fillable-less y.ready 12288 (omega arith)))
  where
    go : (us : Trees) → rest l.made y.trees ≡ us → TakesFirst us at b mid → FieldsThere mid at end (rooms f n)
    go tnil e h = let z : ◌≡◌ {A = ℕ} 0 1 = cc in absurd (omega arith)
    go (tcons t us) e h =
        let d : Taken t at end mid = rw q at h in
        let y' = fillable-less y.ready 12288 (omega arith) in
        record {
          fields = parts t;
          there = record { stands = d.stands; whole = gathered-parts t (first_good l.made y.trees y.ready.defaults.whole t us e) (next-few y' t us e); room = omega (arith, y.ready.room) };
        }

-- ---- `expand_all`
pub record AllInv (f known store : List ℕ) (first many : ℕ) (leaf : Place) (l : Filling) (old : List ℕ) (at e to : ℕ) (now : Filling) (s : List ℕ) : Type 0 where
  pub long : length s ≡ length old
  pub runs : first ≤ e
  pub some : e ≤ first + many
  pub places : now.places ≡ l.places
  pub says : (M : Memo) → Memory f known store M → (ds : Trees) → Fillable old l at 0 ds → at + 24576 * (run_depth f first many + shapes_deep f) ≤ length old + 6 * suc l.size
      → Along M (Defs.expand_all f (inits_at f first many) leaf ds l.made l.size) (Defs.expand_all f (inits_at f e (first + many - e)) leaf ds now.made now.size) l old at ds now.from to now.made now.size s

pub all_first : (f known store : List ℕ) (first many : ℕ) (leaf : Place) (l : Filling) (old : List ℕ) (at : ℕ)
    → AllInv f known store first many leaf l old at first at l old
all_first f known store first many leaf l old at =
    record {
      long = refl;
      runs = omega arith;
      some = omega arith;
      places = refl;
      says = λ M k ds y room.
          let b : first + many - first ≡ many = omega arith in
          record {
            far = rw b (so-far-none M (Defs.expand_all f (inits_at f first many) leaf ds l.made l.size) l old at (omega (arith, y.room)) y.few y.small);
            next = y.defaults;
          };
    }

all-is : (M : Memo) (f : List ℕ) (first k : ℕ) (leaf : Place) (ds : Trees) (made size : ℕ)
    → peek M (Defs.expand_all f (inits_at f first (suc k)) leaf ds made size)
    ≡ peek M (and_more made size (expand f (init_at f first) leaf ds made size) (λ m s. Defs.expand_all f (inits_at f (suc first) k) leaf ds m s))
unfolding Defaults.expand
all-is M f first k leaf ds made size = rw (inits-next f first k)

-- the array so far, by its own places
as_at : (l now : Filling) → now.places ≡ l.places → now_at l now.from now.made now.size ≡ now
as_at l now e = ap (λ (p : ℕ). now_at (record { from = 0; places = p; made = 0; size = 0 }) now.from now.made now.size) (sym e)

expands-as : {f known store : List ℕ} {e : ℕ} {leaf : Place} {i j : Filling} {s : List ℕ} {to : ℕ} {r : Listing} {new : List ℕ} → i ≡ j → Expands f known store e leaf i s to r new → Expands f known store e leaf j s to r new
expands-as q w = rw q at w

module _ {f known store : List ℕ} {first many : ℕ} {leaf : Place} {l : Filling} {old : List ℕ} {at e to : ℕ} {now : Filling} {s : List ℕ}
    (y : AllInv f known store first many leaf l old at e to now s) where
  pub all-all : e ≡ first + many → ExpandsAll f known store first many leaf l old at (listed to now.made now.size) s
  unfolding Defaults.expand
  all-all h =
      record {
        says = λ M k ds z room.
            let n : first + many - e ≡ 0 = omega arith in
            so-far-all M _ l old at (y.says M k ds z room).far (ap (λ n. Defs.expand_all f (inits_at f e n) leaf ds now.made now.size) n ∙ ap (λ is. Defs.expand_all f is leaf ds now.made now.size) (inits-none f e));
      }

  module _ (gv : Accepted f) (hr : first + many ≤ count f entries) (h : e < first + many) where
    all-ready : (M : Memo) → Memory f known store M → (ds : Trees) → Fillable old l at 0 ds → at + 24576 * (run_depth f first many + shapes_deep f) ≤ length old + 6 * suc l.size
        → Fillable s (now_at l now.from now.made now.size) to (rooms f (entry_depth f e - 1)) ds
    all-ready M k ds z room =
        let v = (y.says M k ds z room).far in
        let d = deepest-at (entry_depth f) first many e y.runs h in
        along-ready (y.says M k ds z room) (rooms f (entry_depth f e - 1))
        (omega (arith, v.small.room, v.ends, y.long, entry-depth-least f gv e (omega arith)))

    all-step : (M : Memo) (ds : Trees)
        → peek M (Defs.expand_all f (inits_at f e (first + many - e)) leaf ds now.made now.size)
        ≡ peek M (and_more now.made now.size (expand f (init_at f e) leaf ds now.made now.size) (λ m n. Defs.expand_all f (inits_at f (e + 1) (first + many - (e + 1))) leaf ds m n))
    all-step M ds =
        let c : e + 1 ≡ suc e = omega arith in
        let n : first + many - e ≡ suc (first + many - suc e) = omega arith in
        rw c (ap (λ n. peek M (Defs.expand_all f (inits_at f e n) leaf ds now.made now.size)) n ∙ all-is M f e (first + many - suc e) leaf ds now.made now.size)

    module _ {r : Listing} {new : List ℕ} (x : Expands f known store e leaf now s to r new) where
      w : Expands f known store e leaf (now_at l now.from now.made now.size) s to r new
      w = expands-as (sym (as_at l now y.places)) x

      -- what `?` hands on
      pub all-fails : {u : Unbuilt} → r ≡ Err u → {b : Listing} → b ≡ Err u → ExpandsAll f known store first many leaf l old at b new
      all-fails {u} j q =
          rw q (record {
            says = λ M k ds z room.
                let v = w.says M k ds (all-ready M k ds z room) in
                so-far-fails M _ l old at (y.says M k ds z room).far (expand f (init_at f e) leaf ds now.made now.size)
                (λ m n. Defs.expand_all f (inits_at f (e + 1) (first + many - (e + 1))) leaf ds m n) (all-step M ds) (now_at l now.from now.made now.size) refl refl refl new
                (lists-as M _ (now_at l now.from now.made now.size) to new j v.lists) v.kept refl;
          })

      all-next : {next : Listed} → r ≡ Ok next → length new ≡ length s → {from' : ℕ} → MovesOn new now.from now.made next.made from'
          → AllInv f known store first many leaf l old at (e + 1) next.end (now_at l from' next.made next.size) new
      all-next {next} j g m =
          record {
            long = g ∙ y.long;
            runs = omega (arith, y.runs);
            some = omega arith;
            places = refl;
            says = λ M k ds z room.
                let v = w.says M k ds (all-ready M k ds z room) in
                let t = lists-as M _ (now_at l now.from now.made now.size) to new j v.lists in
                record {
                  far =
                      so_far_more M _ l old at (y.says M k ds z room).far (expand f (init_at f e) leaf ds now.made now.size)
                      (λ m n. Defs.expand_all f (inits_at f (e + 1) (first + many - (e + 1))) leaf ds m n) (all-step M ds) (now_at l now.from now.made now.size) refl refl refl new t v.kept g;
                  next = along-next (y.says M k ds z room) t v.kept g m;
                };
          }

      pub all_more : {next : Listed} → r ≡ Ok next → length new ≡ length s → {then : Filling} → then ≡ record { from = then.from; places = now.places; made = next.made; size = next.size }
          → MovesOn new now.from now.made next.made then.from → AllInv f known store first many leaf l old at (e + 1) next.end then new
      all_more {next} j g {then} q m =
          let z : now_at l then.from next.made next.size ≡ then = ap (λ (p : ℕ). now_at (record { from = 0; places = p; made = 0; size = 0 }) then.from next.made next.size) (sym y.places) ∙ sym q in
          rw z at (all-next j g m)

-- what stands for the next entry
pub all_there : {f classes known store : List ℕ} {first many : ℕ} {leaf : Place} {l : Filling} {old : List ℕ} {at e to : ℕ} {now : Filling} {s : List ℕ} → AllInv f known store first many leaf l old at e to now s
    → Ready f classes known store → first + many ≤ count f entries → e < first + many → RunThere f first many old l at
    → DefaultsThere s now to (rooms f (entry_depth f e - 1))
all_there {f} {classes} {known} {store} {first} {many} {leaf} {l} {old} {at} {e} {to} {now} {s} y gv hr h z =
    let w = y.says gv.memo gv.memory z.trees z.ready z.room in
    let v = w.far in
    let d = deepest-at (entry_depth f) first many e y.runs h in
    let p = along-ready w (rooms f (entry_depth f e - 1)) (omega (arith, z.room, v.small.room, v.ends, y.long, entry-depth-least f gv.accepted e (omega arith))) in
    record { trees = z.trees; ready = rw (as_at l now y.places) at p }

pub ruleset nesting = (rules, opened, default-there, all_there, structure-pushed, structure-fails, all_first, all-all, all-fails, all_more)
