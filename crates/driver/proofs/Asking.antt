-- A law for each call and each return of asked.rt. Assumes nothing.
use mathlib.Core.Path.{◌≡◌, refl, ap, sym, subst, ◌∙◌}
use mathlib.Core.Bool.{Bool, true, false, not}
use mathlib.Core.List.{List, [], ◌∷◌, ◌++◌}
use Prim.Native.Nat.{ℕ, zero, suc, ◌+◌, ◌-◌, ◌≤◌, ◌<◌, min}
use native.Mathlib.Omega.{arith}
use native.Mathlib.Numerals.{add-one}
use native.Mathlib.Nat.{zero-add, suc-add}
use lib.Dec.{eqb}
use lib.ListN.{length, get_or}
use borrow.Author.Rules.{rules}
use borrow.Author.Tests.{eqb-true, eqb-false, ne_eqb}
use Rattle.definition.specs.Base.{pick}
use Rattle.definition.specs.Layout.{count, types, word}
use Rattle.definition.specs.Records.{declaration_kind, declaration_of, declaration_at}
use Rattle.definition.specs.declared.records.Declaration.{Declaration}
use Rattle.definition.specs.declared.records.Declaration.TheVariants as decl
use Rattle.laws.specs.Cases.{by_kind}
use Rattle.definition.specs.Ask.{Outcome, type_default}
use Rattle.definition.specs.Starting.{body, remembered}
use Rattle.definition.specs.Answers.{cleared}
use Rattle.definition.specs.Resolve as Resolve
use Rattle.definition.specs.Resolve.{Look, known, unknown, on_look, Memo, at, empty, Ran, Resolver, run, resolve, asking, declared_below, resolve_all}
use Rattle.laws.specs.Memo.{empty-long}
use Rattle.lines.specs.Append.{most_words}
use Rattle.lines.proofs.Memories.{remembers-empty}
use Rattle.driver.specs.Driver.{width, Holding, ran, resolved, After, Resolves, Prepared, Held, Fresh}
use Rattle.driver.specs.Asked.{asked, asked_one, each_memo, is_declared, declared_memo, Recalls, Tell, Asking, AsksEach, Declares}
use Rattle.driver.specs.Every.{every_memo, ResolvesAll}
use Rattle.lines.proofs.Lending.{lends-same, lends-then}
use Rattle.driver.proofs.Widths.{run-width, spent-empty}
use Rattle.driver.proofs.Holdings.{fresh-unknown, unknown-fresh}
use Rattle.driver.proofs.Settling.{prepared-kept}
use Rattle.std.specs.Prelude.{None, Option, Some}

-- ---- a type that is asked for
module _ (f : List ℕ) (M : Memo) (t : ℕ) where
  pub asked-known : (o : Outcome) → at M t ≡ known o → asked f M t ≡ M
  unfolding asked
  asked-known o e = rw e

  pub asked-unknown : at M t ≡ unknown → asked f M t ≡ resolved f M t
  unfolding asked
  asked-unknown e = rw e

  pub asked-run : (ran f M (type_default t)).memo ≡ asked f M t
  unfolding asked ran run type_default resolved
  asked-run = go (at M t)
    where
      go : (l : Look) → (on_look {X = Ran Outcome} l (λ o. record { memo = M; value = o }) (λ u. let r = resolve (body f) (count f types) M t in record { memo = r.memo; value = r.value })).memo
          ≡ on_look l (λ o. M) (λ u. (resolve (body f) (count f types) M t).memo)
      go (known o) = refl
      go unknown = refl

  pub asked-width : width M ≤ width (asked f M t)
  unfolding ran
  asked-width = rw asked-run at (run-width (body f) (count f types) (type_default t) M)

  pub one-left : (asks : ℕ → Bool) → asks t ≡ false → asked_one f asks M t ≡ M
  unfolding asked_one
  one-left asks e = rw e

  pub one-asked : (asks : ℕ → Bool) → asks t ≡ true → asked_one f asks M t ≡ asked f M t
  unfolding asked_one
  one-asked asks e = rw e

  one-width : (asks : ℕ → Bool) → width M ≤ width (asked_one f asks M t)
  unfolding asked_one
  one-width asks = go (asks t)
    where
      go : (b : Bool) → width M ≤ width (pick b (asked f M t) M)
      go true = asked-width
      go false = omega arith

-- ---- one list after another
asking-append : (res : Resolver) (l l' : List ℕ) (M : Memo) → (run res M (asking (l ++ l'))).memo ≡ (run res (run res M (asking l)).memo (asking l')).memo
unfolding run asking
asking-append res [] l' M = refl
asking-append res (d ∷ l) l' M = go (at M d) (asking-append res l l')
  where
    go : (w : Look) → ((N : Memo) → (run res N (asking (l ++ l'))).memo ≡ (run res (run res N (asking l)).memo (asking l')).memo)
        → (on_look w (λ o. run res M (asking (l ++ l'))) (λ u. run res (res M d).memo (asking (l ++ l')))).memo
        ≡ (run res (on_look w (λ o. run res M (asking l)) (λ u. run res (res M d).memo (asking l))).memo (asking l')).memo
    go (known o) ih = ih M
    go unknown ih = ih (res M d).memo

module _ (f : List ℕ) where
  each-none : (asks : ℕ → Bool) → each_memo f asks 0 ≡ empty (count f types)
  unfolding each_memo
  each-none asks = refl

  each-next : (asks : ℕ → Bool) (t : ℕ) → each_memo f asks (suc t) ≡ asked_one f asks (each_memo f asks t) t
  unfolding each_memo
  each-next asks t = refl

  pub each-width : (asks : ℕ → Bool) (k t : ℕ) → width (each_memo f asks t) ≤ width (each_memo f asks (k + t))
  each-width asks zero t = rw zero-add (omega arith)
  each-width asks (suc k) t = rw suc-add (rw (each-next asks (k + t)) (omega (arith, each-width asks k t, one-width f (each_memo f asks (k + t)) (k + t) asks)))

  -- all types
  every-asked : (t : ℕ) → each_memo f (λ t. true) t ≡ every_memo f t
  unfolding each_memo every_memo asked_one
  every-asked zero = refl
  every-asked (suc t) = ap (λ (M : Memo). asked f M t) (every-asked t)

  -- declared types
  one_more : (N : Memo) (t : ℕ) (b : Bool) → (run (resolve (body f) (count f types)) N (asking (pick b [] (t ∷ [])))).memo ≡ pick b N (asked f N t)
  unfolding run asking asked resolved
  one_more N t true = refl
  one_more N t false = go (at N t)
    where
      go : (l : Look) → (on_look {X = Ran (Unit {0})} l (λ o. record { memo = N; value = tt }) (λ u. let r = resolve (body f) (count f types) N t in record { memo = r.memo; value = tt })).memo
          ≡ on_look l (λ o. N) (λ u. (resolve (body f) (count f types) N t).memo)
      go (known o) = refl
      go unknown = refl

  pub declared-none : declared_memo f 0 ≡ empty (count f types)
  unfolding declared_memo ran declared_below asking run
  declared-none = refl

  pub declared-all : declared_memo f (count f types) ≡ remembered f
  unfolding declared_memo ran Resolve.remembered resolve_all
  declared-all = refl

  other_way : (b : Bool) (N L : Memo) → pick b N L ≡ pick (not b) L N
  other_way true N L = refl
  other_way false N L = refl

  pub declared-next : (t : ℕ) → declared_memo f (suc t) ≡ asked_one f (is_declared f) (declared_memo f t) t
  unfolding declared_memo ran declared_below asked_one
  declared-next t =
      let b = eqb (declaration_kind f t) 0 in
      let N = (run (resolve (body f) (count f types)) (empty (count f types)) (asking (declared_below f t))).memo in
      asking-append (resolve (body f) (count f types)) (declared_below f t) (pick b [] (t ∷ [])) (empty (count f types)) ∙ one_more N t b ∙ other_way b N (asked f N t)

  pub declared-asked : (t : ℕ) → each_memo f (is_declared f) t ≡ declared_memo f t
  declared-asked zero = each-none (is_declared f) ∙ sym declared-none
  declared-asked (suc t) = each-next (is_declared f) t ∙ ap (λ (M : Memo). asked_one f (is_declared f) M t) (declared-asked t) ∙ sym (declared-next t)

-- ---- `is_declared`
nothing-kind : (kind named start first many : ℕ) → declaration_of kind named start first many ≡ decl.Nothing → kind ≡ 0
unfolding declaration_of
nothing-kind kind named start first many =
    by_kind 10 (λ k. declaration_of k named start first many ≡ decl.Nothing → k ≡ 0)
    (λ e. refl)
    (λ e. let z : ◌≡◌ {A = ℕ} 0 1 = cc in absurd (omega arith))
    (λ e. let z : ◌≡◌ {A = ℕ} 0 1 = cc in absurd (omega arith))
    (λ e. let z : ◌≡◌ {A = ℕ} 0 1 = cc in absurd (omega arith))
    (λ e. let z : ◌≡◌ {A = ℕ} 0 1 = cc in absurd (omega arith))
    (λ e. let z : ◌≡◌ {A = ℕ} 0 1 = cc in absurd (omega arith))
    (λ e. let z : ◌≡◌ {A = ℕ} 0 1 = cc in absurd (omega arith))
    (λ e. let z : ◌≡◌ {A = ℕ} 0 1 = cc in absurd (omega arith))
    (λ e. let z : ◌≡◌ {A = ℕ} 0 1 = cc in absurd (omega arith))
    (λ e. let z : ◌≡◌ {A = ℕ} 0 1 = cc in absurd (omega arith))
    (λ k e. let z : ◌≡◌ {A = ℕ} 0 1 = cc in absurd (omega arith))
    kind

module _ (f : List ℕ) (t : ℕ) {d : Declaration} (q : d ≡ declaration_at f t) where
  pub declared-not : d ≡ decl.Nothing → false ≡ is_declared f t
  unfolding declaration_at declaration_of
  declared-not i = let k : declaration_kind f t ≡ 0 = nothing-kind (declaration_kind f t) _ _ _ _ (sym q ∙ i) in rw k

  pub declared-so : (d ≡ decl.Nothing → ⊥) → true ≡ is_declared f t
  unfolding declaration_at declaration_of
  declared-so n = rw (ne_eqb (declaration_kind f t) 0 (λ e. n (q ∙ ap (λ (k : ℕ). declaration_of k (word f types t 5) (word f types t 6) (word f types t 7) (word f types t 8)) e)))

pub ruleset declaring = (rules, declared-not, declared-so)

-- ---- `ask_type`
pub word-inside : {f classes : List ℕ} {n room : ℕ} → Prepared f classes n room → (t : ℕ) → t < count f types → t < n
word-inside g t l = omega (arith, g.typed)

module _ {f index store : List ℕ} {end t : ℕ} (h : Held f index store end) (l : t < count f types) where
  module _ {b : Bool} (q : b ≡ eqb (get_or index t 0) 0) where
    pub held-fresh : b ≡ true → Fresh f index store end t
    held-fresh e = record { held = h; inside = l; word = eqb-true (get_or index t 0) 0 (sym q ∙ e) }

    pub recalls-new : b ≡ true → {r : Option ℕ} {index' store' : List ℕ} → Resolves f t index store end r index' store' → Recalls f t index store end r index' store'
    recalls-new e s =
        record { gives = λ M x. rw (asked-unknown f M t (fresh-unknown x t l (eqb-true (get_or index t 0) 0 (sym q ∙ e)))) (s.gives M x) }

    pub recalls-old : b ≡ false → Recalls f t index store end (Some end) index store
    recalls-old e = record { gives = λ M x. go M x (at M t) refl }
      where
        go : (M : Memo) → Holding f index store end M → (w : Look) → at M t ≡ w → Holding f index store end (asked f M t)
        go M x (known o) i = rw (asked-known f M t o i) x
        go M x unknown i = absurd (eqb-false (get_or index t 0) 0 (sym q ∙ e) (unknown-fresh x t i))

pub ruleset asks = (rules, lends-same, word-inside, held-fresh, recalls-new, recalls-old)

-- ---- `resolve_each`
pub asking-start : (f : List ℕ) (answers : ℕ → Bool → Type 0) (words store : List ℕ) {index : List ℕ} → index ≡ cleared words → {e : ℕ} → e ≡ 0 → count f types ≤ length words
    → Asking f answers index store e 0
asking-start f answers words store {index} i {e} j h =
    record { held = record { memo = empty (count f types); holding = start }; holding = λ asks k. rw (each-none f asks) start; most = omega arith }
  where
    start : Holding f index store e (empty (count f types))
    start = rw (i, j) (record { remembers = remembers-empty words store 0 (count f types) h (omega arith); all = empty-long (count f types); spends = sym (spent-empty (count f types) (cleared words)) })

module _ {f : List ℕ} {answers : ℕ → Bool → Type 0} {index store : List ℕ} {end t : ℕ} (x : Asking f answers index store end t) where
  pub asking-done : {n : ℕ} → n ≡ count f types → n ≤ t → AsksEach f answers (Some end) index store
  asking-done e h =
      let k : t ≡ count f types = omega (arith, x.most) in
      record { after = λ asks q. subst (λ (n : ℕ). Holding f index store end (each_memo f asks n)) k (x.holding asks q) }

  module _ (l : t < count f types) {b : Bool} (a : answers t b) where
    -- one that is not asked for
    pub asking-left : b ≡ false → Asking f answers index store end (t + 1)
    asking-left i =
        record {
          held = x.held;
          holding = λ asks q. rw (add-one t, each-next f asks t, one-left f (each_memo f asks t) t asks (sym (q t b a) ∙ i)) (x.holding asks q);
          most = omega arith;
        }

    module _ (i : b ≡ true) {r : Option ℕ} {index' store' : List ℕ} (s : Recalls f t index store end r index' store') where
      recalled : (asks : ℕ → Bool) → Tell answers asks → After f r index' store' (each_memo f asks (suc t))
      recalled asks q = rw (each-next f asks t, one-asked f (each_memo f asks t) t asks (sym (q t b a) ∙ i)) (s.gives (each_memo f asks t) (x.holding asks q))

      pub asking-next : {e : ℕ} → r ≡ Some e → Asking f answers index' store' e (t + 1)
      asking-next j =
          record {
            held = record { memo = asked f x.held.memo t; holding = subst (λ (a : Option ℕ). After f a index' store' (asked f x.held.memo t)) j (s.gives x.held.memo x.held.holding) };
            holding = λ asks q. rw (add-one t) (subst (λ (a : Option ℕ). After f a index' store' (each_memo f asks (suc t))) j (recalled asks q));
            most = omega arith;
          }

      pub asking-full : r ≡ None → {r' : Option ℕ} → r' ≡ None → AsksEach f answers r' index' store'
      asking-full j k = record { after = λ asks q. subst (λ (a : Option ℕ). After f a index' store' (each_memo f asks (count f types))) (sym k) (full asks q) }
        where
          full : (asks : ℕ → Bool) → Tell answers asks → min (length store') most_words < width (each_memo f asks (count f types))
          full asks q =
              let g : min (length store') most_words < width (each_memo f asks (suc t)) = subst (λ (a : Option ℕ). After f a index' store' (each_memo f asks (suc t))) j (recalled asks q) in
              let k : (count f types - suc t) + suc t ≡ count f types = omega arith in
              let w : width (each_memo f asks (suc t)) ≤ width (each_memo f asks (count f types)) = rw k at (each-width f asks (count f types - suc t) (suc t)) in
              omega arith

pub ruleset each = (rules, prepared-kept, lends-then, asking-start, asking-done, asking-left, asking-next, asking-full)

-- ---- `resolve_declared` and `resolve_types`
module _ {f : List ℕ} {answers : ℕ → Bool → Type 0} {r : Option ℕ} {index store : List ℕ} (s : AsksEach f answers r index store) where
  pub declares-each : Tell answers (is_declared f) → Declares f r index store
  declares-each q = record { after = subst (λ (M : Memo). After f r index store M) (declared-asked f (count f types) ∙ declared-all f) (s.after (is_declared f) q) }

  pub resolves-each : Tell answers (λ t. true) → ResolvesAll f r index store
  resolves-each q = record { after = subst (λ (M : Memo). After f r index store M) (every-asked f (count f types)) (s.after (λ t. true) q) }

pub ruleset of_each = (rules, declares-each, resolves-each)
