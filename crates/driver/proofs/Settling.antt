-- A law for each call and each return of driver.rt. Assumes nothing.
use mathlib.Core.Path.{◌≡◌, refl, ap, sym, subst, ◌∙◌}
use mathlib.Core.Bool.{true}
use mathlib.Core.List.{List, ◌∷◌}
use Prim.Native.Nat.{ℕ, suc, ◌+◌, ◌-◌, ◌*◌, ◌/◌, ◌≤◌, ◌<◌, min}
use native.Mathlib.Omega.{arith}
use lib.ListN.{length, get_or, take, set}
use lib.Dec.{leb}
use lib.Seq.{get_or-set_same, get_or-set_other, paste, take-take, length-take-le}
use borrow.Author.Tests.{le-leb}
use borrow.Author.Rules.{rules}
use borrow.Rule.Slice.PartMut.{put_mid}
use Rattle.definition.specs.Tree.{nodes, flatten}
use Rattle.definition.specs.Ask.{ok, none, large, Outcome, Ask}
use Rattle.definition.specs.Starting.{body}
use Rattle.definition.specs.Resolve.{known, unknown, Memo, at, put}
use Rattle.definition.specs.Peek.{Peek, got, wants, peek}
use Rattle.laws.specs.Whole.{flatten-length}
use Rattle.laws.specs.Peeking.{peek-unknown}
use Rattle.tree.specs.Words.{Stand}
use Rattle.lines.specs.Append.{most_words, AppendsState, AppendsTree}
use Rattle.lines.specs.Look.{state_word}
use Rattle.lines.specs.declared.look.Absent.{Absent}
use Rattle.lines.proofs.Lending.{lends-same, lends-then}
use Rattle.lines.proofs.Memories.{remembers-none, remembers-large, remembers-tree, full-state, full-tree}
use Rattle.build.specs.Built.{Built}
use Rattle.build.specs.declared.built.Unbuilt.{Unbuilt}
use Rattle.build.specs.declared.built.Unbuilt.TheVariants as unbuilt
use Rattle.build.specs.Built.{index_at, index_in, Gives, Builds, Ready}
use Rattle.driver.specs.Tables.{Front}
use Rattle.driver.proofs.Tabling.{front-classes, back_index}
use Rattle.build.specs.Absent.{absent_of}
use Rattle.driver.specs.Driver.{wanted_in, width, zeros, Holding, settled, resolved, After, Stores, EndsIn, Settles, Resolves, Given, Prepared, Held, Begun, Fresh}
use Rattle.driver.proofs.Widths.{line-none, line-large, line-tree, zeros-less}
use Rattle.driver.proofs.Holdings.{busy-none, fresh-unknown, unknown-fresh, unknown-inside, to-memory, holding-begin, body-small, settled-got, settled-again, resolved-is, settled-width, resolved-old, appends-old, appends-fewer, appends-after}
use Rattle.std.specs.Prelude.{None, Option, Some}
use Rattle.std.specs.Prelude.{Ok, Err}

-- ---- what was built is remembered
pub ends-inside : {b : Built} {n : ℕ} → EndsIn b n → {e : ℕ} → b ≡ Ok e → e ≤ n
ends-inside h q = rw q at h

-- of the words at the front those alone count that are written
front-line : (store : List ℕ) (end e k x y z : ℕ) (room : List ℕ) → k * 6 ≤ e → paste store end (x ∷ y ∷ z ∷ take e room) (3 + k * 6) ≡ paste store end (x ∷ y ∷ z ∷ room) (3 + k * 6)
front-line store end e k x y z room h =
    let n : 3 + k * 6 ≡ suc (suc (suc (k * 6))) = omega arith in
    rw (n, take-take (k * 6) e room h) refl

module _ {b : Built} {room index store : List ℕ} {end t : ℕ} {r : Option ℕ} {index' store' : List ℕ} where
  pub stores-ends : {e : ℕ} → b ≡ Ok e → e ≤ length room → AppendsTree (take e room) 0 (length (take e room) / 6) index store end t r index' store' → Stores b room index store end t r index' store'
  stores-ends {e} q l h =
      let n : length (take e room) ≡ e = length-take-le e room l in
      let i : leb (0 + e / 6 * 6) e ≡ true = le-leb (0 + e / 6 * 6) e (omega arith) in
      let j : leb (0 + e / 6 * 6) (length room) ≡ true = le-leb (0 + e / 6 * 6) (length room) (omega arith) in
      let w : paste store end (0 ∷ 0 ∷ e / 6 ∷ take e room) (3 + e / 6 * 6) ≡ paste store end (0 ∷ 0 ∷ e / 6 ∷ room) (3 + e / 6 * 6) = front-line store end e (e / 6) 0 0 (e / 6) room (omega arith) in
      record { appends = rw q (record { says = rw j (rw (n, i) at h.says); marks = rw j (rw (n, i) at h.marks); writes = rw j (rw (n, i, w) at h.writes) }) }

  pub stores-absent : {u : Unbuilt} → b ≡ Err u → {a : Absent} → a ≡ absent_of u → AppendsState (state_word a) index store end t r index' store' → Stores b room index store end t r index' store'
  stores-absent {u} q i h = go u q (rw i at h)
    where
      go : (u : Unbuilt) → b ≡ Err u → AppendsState (state_word (absent_of u)) index store end t r index' store' → Stores b room index store end t r index' store'
      go unbuilt.None q h = record { appends = rw q h }
      go unbuilt.TooLarge q h = record { appends = rw q h }
      go (unbuilt.Wanted d) q h = record { appends = rw q tt }

-- the index is put back
pub stores_back : (tables : List ℕ) → index_at ≤ length tables → (part : List ℕ) → length part ≡ length (index_in tables)
    → {b : Built} {room store : List ℕ} {end t : ℕ} {r : Option ℕ} {store' : List ℕ} → Stores b room (index_in tables) store end t r part store'
    → Stores b room (index_in tables) store end t r (index_in (put_mid index_at (length tables - index_at) tables part)) store'
stores_back tables h part l {b} {room} {store} {end} {t} {r} {store'} s = subst (λ (i : List ℕ). Stores b room (index_in tables) store end t r i store') (sym (back_index tables h part l)) s

pub ruleset appending = (rules, ends-inside, stores-ends, stores-absent)

-- ---- what is handed on
pub prepared-kept : {f classes : List ℕ} {n room : ℕ} → Prepared f classes n room → (m k : ℕ) → m ≡ n → k ≡ room → Prepared f classes m k
prepared-kept g m k e i = record { accepted = g.accepted; classed = g.classed; typed = omega (arith, g.typed); roomy = omega (arith, g.roomy) }

pub to-ready : {f classes : List ℕ} {n room : ℕ} {index store : List ℕ} {end : ℕ} → Prepared f classes n room → Held f index store end → Ready f classes index store
to-ready g h = record { accepted = g.accepted; classed = g.classed; memo = h.memo; memory = to-memory h.holding }

-- the same of a slice in which the index stands behind the classes
pub given-kept : {f known : List ℕ} {n : ℕ} → Given f known n → {known' : List ℕ} → Front known known' → (m : ℕ) → m ≡ n → Given f known' m
given-kept g p m e =
    record {
      accepted = g.accepted;
      classed = front-classes g.accepted g.classed p;
      tables = omega (arith, g.tables, p.long);
      roomy = omega (arith, g.roomy);
    }

pub given-ready : {f known : List ℕ} {room : ℕ} {store : List ℕ} {end : ℕ} → Given f known room → Held f (index_in known) store end → Ready f known (index_in known) store
given-ready g h = record { accepted = g.accepted; classed = g.classed; memo = h.memo; memory = to-memory h.holding }

-- what was made of what is known, in the words that it stands for
pub built-of : {f index store f' index' store' : List ℕ} → f' ≡ f → index' ≡ index → store' ≡ store → (m : List ℕ → Ask Outcome) {at : ℕ} {old : List ℕ} {r : Built} {new : List ℕ}
    → Builds f' index' store' flatten (m f') at old r new → Builds f index store flatten (m f) at old r new
built-of {f} {index} {store} {f'} {index'} {store'} p q s m {at} {old} {r} {new} b =
    subst (λ (z : List ℕ). Builds z index store flatten (m z) at old r new) p
    (subst (λ (z : List ℕ). Builds f' z store flatten (m f') at old r new) q
    (subst (λ (z : List ℕ). Builds f' index' z flatten (m f') at old r new) s b))

-- ---- what was built
abbrev pub NoWant : Built → Type 0
NoWant r = (d : ℕ) → r ≡ Err (unbuilt.Wanted d) → ⊥

pub no-want : {b : Built} {x : Option ℕ} → x ≡ wanted_in b → x ≡ None → NoWant b
no-want h i d q = let e : None ≡ Some d = sym i ∙ h ∙ ap wanted_in q in let z : ◌≡◌ {A = ℕ} 0 1 = cc in absurd (omega arith)

pub wants-one : (b : Built) {x : Option ℕ} → x ≡ wanted_in b → {d : ℕ} → x ≡ Some d → b ≡ Err (unbuilt.Wanted d)
wants-one (Ok e) h i = let z : ◌≡◌ {A = ℕ} 0 1 = cc in absurd (omega arith)
wants-one (Err unbuilt.None) h i = let z : ◌≡◌ {A = ℕ} 0 1 = cc in absurd (omega arith)
wants-one (Err unbuilt.TooLarge) h i = let z : ◌≡◌ {A = ℕ} 0 1 = cc in absurd (omega arith)
wants-one (Err (unbuilt.Wanted e)) h {d} i = let k : e ≡ d = cc in ap (λ (n : ℕ). Err (unbuilt.Wanted n)) k

pub wanted-not : {X : Type 0} (d : ℕ) → NoWant (Err (unbuilt.Wanted d)) → X
wanted-not d k = absurd (k d refl)

pub gives-wants : {at d : ℕ} {r : Built} {new : List ℕ} (p : Peek Outcome) → Gives flatten p at r new → r ≡ Err (unbuilt.Wanted d) → p ≡ wants d
gives-wants (got (ok a)) h q = let s = h.says in let z : ◌≡◌ {A = ℕ} 0 1 = cc in absurd (omega arith)
gives-wants (got none) h q = let s = h.says in let z : ◌≡◌ {A = ℕ} 0 1 = cc in absurd (omega arith)
gives-wants (got large) h q = let s = h.says in let z : ◌≡◌ {A = ℕ} 0 1 = cc in absurd (omega arith)
gives-wants {d} (wants e) h q = let s = h.says in let i : e ≡ d = cc in ap wants i

-- what was built for a memo ends in the room
pub gives-inside : {made : Built} {new : List ℕ} (p : Peek Outcome) → Gives flatten p 0 made new → EndsIn made (length new)
gives-inside (got (ok a)) h = rw h.says h.stands.fits
gives-inside (got none) h = rw h.says tt
gives-inside (got large) h = rw h.says tt
gives-inside (wants d) h = rw h.says tt

pub built-inside : {f index store : List ℕ} {end : ℕ} → Held f index store end → {m : Ask Outcome} {old : List ℕ} {made : Built} {new : List ℕ} → Builds f index store flatten m 0 old made new
    → EndsIn made (length new)
built-inside h {m} b = gives-inside (peek h.memo m) (b.gives h.memo (to-memory h.holding))

-- ---- the line of t
module _ {f index store : List ℕ} {end t : ℕ} (b : Begun f index store end t) {room room' : List ℕ} {made : Built} (h : Builds f index store flatten (body f t) 0 room made room')
    (n : NoWant made) {r : Option ℕ} {index' store' : List ℕ} (s : Stores made room' index store end t r index' store') where
  line_after : (M : Memo) → Holding f index store end M → (p : Peek Outcome) → peek M (body f t) ≡ p → Gives flatten p 0 made room' → After f r index' store' (settled f M t)
  line_after M x (got (ok tree)) e g =
      let l : (0 + length (flatten tree)) / 6 ≡ nodes tree = omega (arith, flatten-length tree) in
      let q : AppendsTree room' 0 (nodes tree) index store end t r index' store' = rw (g.says, l) at s.appends in
      let k : 0 + length (flatten tree) ≡ 0 + nodes tree * 6 = omega (arith, flatten-length tree) in
      let y : Stand room' 0 (flatten tree) (0 + nodes tree * 6) = rw k at g.stands in
      rw (settled-got f M t (ok tree) e)
      (appends-after x b.inside b.word (ok tree) (line-tree (ok tree) tree refl) q
      (λ z i. remembers-tree x.remembers room' 0 (nodes tree) q i tree refl (body-small x t (ok tree) e) y)
      (λ i. omega (arith, full-tree i room' 0 (nodes tree) q y.fits)))
  line_after M x (got none) e g =
      let q : AppendsState 1 index store end t r index' store' = rw g.says at s.appends in
      rw (settled-got f M t none e)
      (appends-after x b.inside b.word none line-none q (λ z i. remembers-none x.remembers q i) (λ i. full-state i 1 q))
  line_after M x (got large) e g =
      let q : AppendsState 2 index store end t r index' store' = rw g.says at s.appends in
      rw (settled-got f M t large e)
      (appends-after x b.inside b.word large line-large q (λ z i. remembers-large x.remembers q i) (λ i. full-state i 2 q))
  line_after M x (wants d) e g = wanted-not d (rw g.says at n)

  line-old : (a : Built) → made ≡ a → (o w : ℕ) → (o ≡ t → ⊥) → get_or index o 0 ≡ suc w → get_or index' o 0 ≡ suc w
  line-old (Ok e) i o w k z = let q : AppendsTree room' 0 (e / 6) index store end t r index' store' = rw i at s.appends in appends-old q o w k z
  line-old (Err unbuilt.None) i o w k z = let q : AppendsState 1 index store end t r index' store' = rw i at s.appends in appends-old q o w k z
  line-old (Err unbuilt.TooLarge) i o w k z = let q : AppendsState 2 index store end t r index' store' = rw i at s.appends in appends-old q o w k z
  line-old (Err (unbuilt.Wanted d)) i o w k z = wanted-not d (rw i at n)

  line-fewer : (a : Built) → made ≡ a → zeros index' ≤ zeros index
  line-fewer (Ok e) i = let q : AppendsTree room' 0 (e / 6) index store end t r index' store' = rw i at s.appends in appends-fewer q
  line-fewer (Err unbuilt.None) i = let q : AppendsState 1 index store end t r index' store' = rw i at s.appends in appends-fewer q
  line-fewer (Err unbuilt.TooLarge) i = let q : AppendsState 2 index store end t r index' store' = rw i at s.appends in appends-fewer q
  line-fewer (Err (unbuilt.Wanted d)) i = wanted-not d (rw i at n)

  pub settles-line : Settles f t index store end r index' store'
  settles-line =
      record {
        gives = λ M x. line_after M x (peek M (body f t)) refl (h.gives M (to-memory x));
        old = λ o w k z. line-old made refl o w k z;
        fewer = line-fewer made refl;
      }

-- ---- an unknown type is begun
module _ {f index store : List ℕ} {end t : ℕ} (b : Fresh f index store end t) where
  fresh_at : at b.held.memo t ≡ unknown
  fresh_at = fresh-unknown b.held.holding t b.inside b.word

  fresh-long : t < length index
  fresh-long = omega (arith, b.inside, b.held.holding.all, b.held.holding.remembers.wide)

  pub fresh-begun : Begun f (set index t 1) store end t
  fresh-begun =
      record {
        held = record { memo = put b.held.memo t none; holding = holding-begin b.held.holding t fresh_at };
        inside = b.inside;
        word = get_or-set_same index t 1 0 fresh-long;
      }

  pub fresh-less : zeros (set index t 1) < zeros index
  fresh-less = zeros-less index t 0 fresh-long b.word

  module _ {index' : List ℕ} (i : index' ≡ set index t 1) {r : Option ℕ} {index'' store'' : List ℕ} (s : Settles f t index' store end r index'' store'') where
    pub resolves-fresh : Resolves f t index store end r index'' store''
    resolves-fresh =
        record {
          gives = λ M x. let u = fresh-unknown x t b.inside b.word in
              rw (resolved-is f M t x.all u) (s.gives (put M t none) (rw i (holding-begin x t u)));
          old = λ o w z. s.old o w (λ e. omega (arith, b.word, rw e at z)) (rw i (get_or-set_other index t o 1 0 (λ e. omega (arith, b.word, rw e at z)) ∙ z));
          fewer = let l = fresh-less in let k : zeros index' ≡ zeros (set index t 1) = ap zeros i in omega (arith, s.fewer);
        }

-- ---- what is wanted is resolved first
module _ {f index store : List ℕ} {end t : ℕ} (b : Begun f index store end t) {room room' : List ℕ} {made : Built} (h : Builds f index store flatten (body f t) 0 room made room')
    {d : ℕ} (q : made ≡ Err (unbuilt.Wanted d)) where
  wants-then : (M : Memo) → Holding f index store end M → peek M (body f t) ≡ wants d
  wants-then M x = gives-wants (peek M (body f t)) (h.gives M (to-memory x)) q

  unknown-then : (M : Memo) → Holding f index store end M → at M d ≡ unknown
  unknown-then M x = peek-unknown M d (body f t) (wants-then M x)

  pub wanted-fresh : Fresh f index store end d
  wanted-fresh =
      let x = b.held.holding in
      let u = unknown-then b.held.memo x in
      record { held = b.held; inside = unknown-inside x d u; word = unknown-fresh x d u }

  module _ {r : Option ℕ} {index' store' : List ℕ} (s : Resolves f d index store end r index' store') where
    pub again-begun : {e : ℕ} → r ≡ Some e → Begun f index' store' e t
    again-begun {e} i =
        record {
          held = record { memo = resolved f b.held.memo d; holding = subst (λ (a : Option ℕ). After f a index' store' (resolved f b.held.memo d)) i (s.gives b.held.memo b.held.holding) };
          inside = b.inside;
          word = s.old t 0 b.word;
        }

    pub settles-full : r ≡ None → Settles f t index store end r index' store'
    settles-full i =
        record {
          gives = λ M x.
              let u = unknown-then M x in
              let g : min (length store') most_words < width (resolved f M d) = subst (λ (a : Option ℕ). After f a index' store' (resolved f M d)) i (s.gives M x) in
              let k : at (resolved f M d) t ≡ known none = resolved-old f M d t none u (busy-none x t b.inside b.word) in
              subst (λ (a : Option ℕ). After f a index' store' (settled f M t)) (sym i) (rw (settled-again f M t d (wants-then M x)) (omega (arith, settled-width f (resolved f M d) t k)));
          old = λ o w k z. s.old o w z;
          fewer = omega (arith, s.fewer);
        }

    module _ {e : ℕ} (i : r ≡ Some e) {r' : Option ℕ} {index'' store'' : List ℕ} (y : Settles f t index' store' e r' index'' store'') where
      pub settles-again : Settles f t index store end r' index'' store''
      settles-again =
          record {
            gives = λ M x.
                let g : Holding f index' store' e (resolved f M d) = subst (λ (a : Option ℕ). After f a index' store' (resolved f M d)) i (s.gives M x) in
                rw (settled-again f M t d (wants-then M x)) (y.gives (resolved f M d) g);
            old = λ o w k z. y.old o w k (s.old o w z);
            fewer = omega (arith, s.fewer, y.fewer);
          }

-- ---- the calls
-- a type was begun, and the rest of the lines is as it was
module _ {f index store : List ℕ} {end t : ℕ} (b : Fresh f index store end t) {index' store' : List ℕ} {end' : ℕ} (i : index' ≡ set index t 1) (p : store' ≡ store) (q : end' ≡ end) where
  pub begun-word : Begun f index' store' end' t
  begun-word = rw (i, p, q) (fresh-begun b)

  pub begun-settled : {r : Option ℕ} {index'' store'' : List ℕ} → Settles f t index' store' end' r index'' store'' → Resolves f t index store end r index'' store''
  begun-settled {r} {index''} {store''} s =
      resolves-fresh b i (subst (λ (z : List ℕ). Settles f t index' z end r index'' store'') p (subst (λ (n : ℕ). Settles f t index' store' n r index'' store'') q s))

pub begin-less : {f index store : List ℕ} {end t : ℕ} → Fresh f index store end t → {index' : List ℕ} → index' ≡ set index t 1 → {n : ℕ} → zeros index ≡ n → zeros index' < n
begin-less {index} {t} b {index'} i q = let k : zeros index' ≡ zeros (set index t 1) = ap zeros i in omega (arith, fresh-less b)

pub again-less : {f : List ℕ} {d : ℕ} {index store : List ℕ} {end : ℕ} {r : Option ℕ} {index' store' : List ℕ} → Resolves f d index store end r index' store' → {n : ℕ} → zeros index ≡ n → zeros index' < n
again-less v q = omega (arith, v.fewer)

-- ---- the work of t so far: what settles t from here settles it from the start
pub record Goes (f : List ℕ) (t : ℕ) (index₀ store₀ : List ℕ) (end₀ : ℕ) (index store : List ℕ) (end : ℕ) : Type 0 where
  pub begun : Begun f index store end t
  pub back : (r : Option ℕ) (index' store' : List ℕ) → Settles f t index store end r index' store' → Settles f t index₀ store₀ end₀ r index' store'
  pub fewer : zeros index ≤ zeros index₀

pub goes-start : {f : List ℕ} {t : ℕ} {index store : List ℕ} {end : ℕ} → Begun f index store end t → Goes f t index store end index store end
goes-start b = record { begun = b; back = λ r i s h. h; fewer = omega arith }

module _ {f : List ℕ} {t : ℕ} {index₀ store₀ : List ℕ} {end₀ : ℕ} {index store : List ℕ} {end : ℕ} (x : Goes f t index₀ store₀ end₀ index store end)
    {room room' : List ℕ} {made : Built} (h : Builds f index store flatten (body f t) 0 room made room') where
  pub goes-line : NoWant made → {r : Option ℕ} {index' store' : List ℕ} → Stores made room' index store end t r index' store' → Settles f t index₀ store₀ end₀ r index' store'
  goes-line n {r} {index'} {store'} s = x.back r index' store' (settles-line x.begun h n s)

  module _ {d : ℕ} (q : made ≡ Err (unbuilt.Wanted d)) where
    pub goes-fresh : Fresh f index store end d
    goes-fresh = wanted-fresh x.begun h q

    module _ {r : Option ℕ} {index' store' : List ℕ} (s : Resolves f d index store end r index' store') where
      pub goes-full : r ≡ None → {r' : Option ℕ} → r' ≡ None → Settles f t index₀ store₀ end₀ r' index' store'
      goes-full i {r'} j = x.back r' index' store' (subst (λ (a : Option ℕ). Settles f t index store end a index' store') (i ∙ sym j) (settles-full x.begun h q s i))

      pub goes-next : {e : ℕ} → r ≡ Some e → Goes f t index₀ store₀ end₀ index' store' e
      goes-next i =
          record {
            begun = again-begun x.begun h q s i;
            back = λ a index'' store'' y. x.back a index'' store'' (settles-again x.begun h q s i y);
            fewer = omega (arith, x.fewer, s.fewer);
          }

pub ruleset settling = (rules, lends-then, prepared-kept, begun-word, begun-settled)
