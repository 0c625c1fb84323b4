-- A law for each call and each return of trees.rt. Assumes nothing.
use mathlib.Core.Path.{◌≡◌, refl, ap, sym, subst, ◌∙◌}
use mathlib.Core.Bool.{Bool, true, false, ◌&&◌}
use mathlib.Core.List.{List, ◌++◌}
use Prim.Native.Nat.{ℕ, ◌+◌, ◌*◌, ◌/◌, ◌≤◌, ◌<◌}
use native.Mathlib.Omega.{arith}
use lib.Dec.{eqb, leb, ltb}
use lib.ListN.{length, take, drop, replicate}
use borrow.Author.Rules.{rules}
use borrow.Author.Tests.{eqb-true, eqb-false, leb-true, ltb-true, le-leb}
use Rattle.definition.specs.Base.{pick, choose}
use Rattle.definition.specs.Layout.{count}
use Rattle.definition.specs.Accept.{need, verdict}
use Rattle.definition.specs.Tree.{Tree, nodes, flatten}
use Rattle.definition.specs.Ask.{ok, none, large, Outcome}
use Rattle.definition.specs.Answers.{refuses, number_of, line_words, room_words, cleared, enough, refused_tree, over, answered, words_say, tree_says, tree_answer, tree_out, type_refused, type_tree_answer, type_tree_out, variable_refused, variable_tree_answer, variable_tree_out}
use Rattle.laws.specs.Cases.{both}
use Rattle.laws.specs.Accepted.{accepted}
use Rattle.laws.specs.Whole.{flatten-length}
use Rattle.shapes.specs.Classes.{classes_of}
use Rattle.acceptance.specs.Admitted.{refusal_in, Admits}
use Rattle.acceptance.proofs.Accepting.{holds, fails, refused}
use Rattle.acceptance.proofs.Wanting.{not-zero}
use Rattle.tree.specs.Words.{Stand, WroteCopy}
use Rattle.tree.proofs.Standing.{wrote-so-is}
use Rattle.lines.proofs.Copying.{wrote-not-is}
use Rattle.build.specs.Built.{Built}
use Rattle.driver.specs.Driver.{Given}
use Rattle.driver.specs.declared.told.Owner.{Owner}
use Rattle.driver.specs.declared.told.Owner.TheVariants as owner
use Rattle.driver.specs.Told.{Ample, Tells, section_in, number_in, outcome_in}
use Rattle.driver.proofs.Tabling.{tables-given}
use Rattle.driver.proofs.Telling.{TreeIn}
use Rattle.resolver.specs.Trees.{end_in, Stands, WritesTree, Writes, Passed, answer_in, out_in}
use Rattle.std.specs.Prelude.{None, Option, Some}
use Rattle.std.specs.Prelude.{Ok, Err, MatchResult}
use denote.Ref.{Bor}
use Rattle.records.specs.declared.file.File.{File}
use Rattle.std.specs.Option.{ok_or}
use Rattle.std.specs.Prelude as std
use Rattle.definition.specs.declared.answers.Refusal.{Refusal}
use Rattle.definition.specs.declared.answers.Refusal.TheVariants as refusal

-- ---- `asked`
module _ (f : List ℕ) (section number lines room : ℕ) {n : ℕ} (q : n ≡ count f section) where
  pub asked-not : {x : Refusal} → ◌≡◌ {A = std.Result (Unit {0}) Refusal} (Err x) (pick (ltb number n) (Ok tt) (Err refusal.Missing)) → {r : std.Result (Unit {0}) Refusal} → r ≡ Err x
      → refusal_in r ≡ need (ltb number (count f section)) 7 (λ u. need (enough f lines room) 10 λ w. 0)
  unfolding number_of
  asked-not {x} e h = rw (h, refused (ltb number n) x refusal.Missing e, ← q, fails (ltb number n) x refusal.Missing e)

  pub asked-so : {u : Unit {0}} → ◌≡◌ {A = std.Result (Unit {0}) Refusal} (Ok u) (pick (ltb number n) (Ok tt) (Err refusal.Missing)) → {m : ℕ} → m ≡ line_words f
      → (r : std.Result (Unit {0}) Refusal) {w : ℕ} → refusal_in r ≡ need (leb m lines && leb (room_words f) w) 10 (λ u. 0) → w ≡ room
      → refusal_in r ≡ need (ltb number (count f section)) 7 (λ u. need (enough f lines room) 10 λ w. 0)
  unfolding enough
  asked-so e k r h i = rw (← q, holds (ltb number n) refusal.Missing e, ← k, ← i) h

-- ---- `admitted`
pub admitted-by : (f : List ℕ) (section number lines room : ℕ) {answers : Bor File → std.Result (Unit {0}) Refusal → Type 0} {r : std.Result File Refusal} → Admits answers f r
    → ((file : Bor File) (a : std.Result (Unit {0}) Refusal) → answers file a → refusal_in a ≡ need (ltb number (count file.now.source section)) 7 (λ u. need (enough file.now.source lines room) 10 λ w. 0))
    → MatchResult r (λ file. (file.source ≡ f) × (refused_tree f (ltb number (count f section)) lines room ≡ 0)) (λ refusal. number_of refusal ≡ refused_tree f (ltb number (count f section)) lines room)
unfolding refused_tree
admitted-by f section number lines room x h =
    x.is (λ u. need (ltb number (count f section)) 7 (λ u. need (enough f lines room) 10 λ w. 0))
    (λ file a q p. h file a p ∙ ap (λ (l : List ℕ). need (ltb number (count l section)) 7 (λ u. need (enough l lines room) 10 λ w. 0)) q)

-- what holds where nothing is refused
module _ (f : List ℕ) (lines room : ℕ) (s : enough f lines room ≡ true) where
  enough-lines : line_words f ≤ lines
  unfolding enough
  enough-lines = leb-true (line_words f) lines (both (leb (line_words f) lines) (leb (room_words f) room) s).0

  enough-room : room_words f ≤ room
  unfolding enough
  enough-room = leb-true (room_words f) room (both (leb (line_words f) lines) (leb (room_words f) room) s).1

pub passed : (f : List ℕ) (section number lines room : ℕ) → refused_tree f (ltb number (count f section)) lines room ≡ 0 → {s : List ℕ} → s ≡ f → Passed s section number lines room
unfolding refused_tree
passed f section number lines room e {s} is = rw is (go (eqb (verdict f) 0) (ltb number (count f section)) (enough f lines room) refl refl refl (sym e))
  where
    go : (b c d : Bool) → eqb (verdict f) 0 ≡ b → ltb number (count f section) ≡ c → enough f lines room ≡ d
        → 0 ≡ choose b (λ u. need c 7 λ v. need d 10 λ w. 0) (λ u. verdict f) → Passed f section number lines room
    go true true true p q s h =
        record {
          accepted = accepted f (eqb-true (verdict f) 0 p);
          inside = ltb-true number (count f section) q;
          lined = enough-lines f lines room s;
          roomy = enough-room f lines room s;
        }
    go true true false p q s h = absurd (omega arith)
    go true false d p q s h = absurd (omega arith)
    go false c d p q s h = absurd (eqb-false (verdict f) 0 p (sym h))

-- ---- `build_tree`
module _ {f : List ℕ} {section number lines room : ℕ} (p : Passed f section number lines room) where
  pub passed-given : (words : List ℕ) {known : List ℕ} → known ≡ classes_of f ++ words → length known ≡ 2048 → Given f known room
  passed-given words c l = tables-given p.accepted p.roomy words c l

  pub passed-ample : Ample f lines
  passed-ample = record { lines = p.lined }

pub tells-stands : {o : Outcome} {made : Built} {room : List ℕ} → Tells o made room → {r : std.Result (Option ℕ) Refusal} → r ≡ end_in made → Stands o r room
tells-stands {o = ok t} {made} {room} h e =
    let z : 0 + length (flatten t) ≡ length (flatten t) = omega arith in
    record { held = (e ∙ ap end_in h.gives.says ∙ ap (λ (n : ℕ). Ok (Some n)) z, subst (λ (n : ℕ). Stand room 0 (flatten t) n) z h.gives.stands) }
tells-stands {o = none} h e = record { held = e ∙ ap end_in h.gives.says }
tells-stands {o = large} h e = record { held = e ∙ ap end_in h.gives.says }

-- ---- what stands in the room where it was built
module _ {room : List ℕ} where
  pub stands-tree : (o : Outcome) {r : std.Result (Option ℕ) Refusal} → Stands o r room → {e : ℕ} → r ≡ Ok (Some e) → TreeIn o e room
  stands-tree (ok t) h {e} q = let i = h.held.0 in let k : length (flatten t) ≡ e = cc in record { tree = t; is = refl; stands = subst (λ (e : ℕ). Stand room 0 (flatten t) e) k h.held.1 }
  stands-tree none h q = let i = h.held in let z : ◌≡◌ {A = ℕ} 0 1 = cc in absurd (omega arith)
  stands-tree large h q = let i = h.held in let z : ◌≡◌ {A = ℕ} 0 1 = cc in absurd (omega arith)

  pub stands_none : (o : Outcome) {r : std.Result (Option ℕ) Refusal} → Stands o r room → r ≡ Ok None → o ≡ none
  stands_none (ok t) h q = let i = h.held.0 in let z : ◌≡◌ {A = ℕ} 0 1 = cc in absurd (omega arith)
  stands_none none h q = refl
  stands_none large h q = let i = h.held in let z : ◌≡◌ {A = ℕ} 0 1 = cc in absurd (omega arith)

  pub stands-large : (o : Outcome) {x : Refusal} → Stands o (Err x) room → (o ≡ large) × (x ≡ refusal.Large)
  stands-large (ok t) h = let i = h.held.0 in let z : ◌≡◌ {A = ℕ} 0 1 = cc in absurd (omega arith)
  stands-large none h = let i = h.held in let z : ◌≡◌ {A = ℕ} 0 1 = cc in absurd (omega arith)
  stands-large large h = let i = h.held in (refl, cc)

-- ---- `write`
pub copied-so : {x : Option ℕ} {a : std.Result ℕ Refusal} → a ≡ ok_or x refusal.Short → {n : ℕ} → a ≡ Ok n → x ≡ Some n
copied-so {x = Some y} k {n} i = let e : y ≡ n = cc in ap Some e
copied-so {x = None} k i = let z : ◌≡◌ {A = ℕ} 0 1 = cc in absurd (omega arith)

pub copied-not : {x : Option ℕ} {a : std.Result ℕ Refusal} → a ≡ ok_or x refusal.Short → {y : Refusal} → a ≡ Err y → (x ≡ None) × (y ≡ refusal.Short)
copied-not {x = Some n} k i = let z : ◌≡◌ {A = ℕ} 0 1 = cc in absurd (omega arith)
copied-not {x = None} k {y} i = let e : y ≡ refusal.Short = cc in (refl, e)

module _ {room : List ℕ} {e : ℕ} {old : List ℕ} {x : Option ℕ} {new : List ℕ} (w : WroteCopy room 0 e old 0 x new) where
  copy_test : Bool
  copy_test = leb (0 + e) (length room) && leb (0 + e) (length old)

  module _ (t : Tree) (s : Stand room 0 (flatten t) e) where
    long : 0 + e ≡ 6 * nodes t
    long = omega (arith, s.long, flatten-length t)

    fits-room : leb (0 + e) (length room) ≡ true
    fits-room = le-leb (0 + e) (length room) (omega (arith, s.fits))

    short : x ≡ None → leb (6 * nodes t) (length old) ≡ false
    unfolding copy_test
    short i = rw long at (second (leb (0 + e) (length room)) (leb (0 + e) (length old)) (wrote-not-is copy_test w i).0 fits-room)
      where
        second : (p q : Bool) → p && q ≡ false → p ≡ true → q ≡ false
        second true q g h = g
        second false q g h = let z : ◌≡◌ {A = ℕ} 0 1 = absurd (differ h) in absurd (omega arith)
          where
            differ : false ≡ true → ⊥
            differ h = let z : ◌≡◌ {A = ℕ} 0 1 = cc in omega arith

    enough_out : {n : ℕ} → x ≡ Some n → leb (6 * nodes t) (length old) ≡ true
    unfolding copy_test
    enough_out i = rw long at (both (leb (0 + e) (length room)) (leb (0 + e) (length old)) (wrote-so-is copy_test w i).0).1

  full : x ≡ None → WritesTree room e old (Err refusal.Short) new
  unfolding number_of words_say tree_answer tree_out over copy_test
  full i =
      record {
        says = λ t s. rw (short t s i);
        is = λ t s. rw (flatten-length t) (rw (short t s i) (wrote-not-is copy_test w i).1);
      }

  written : {n : ℕ} → x ≡ Some n → WritesTree room e old (Ok (e / 6)) new
  unfolding number_of words_say tree_answer tree_out over copy_test
  written i =
      record {
        says = λ t s. let k : e / 6 ≡ nodes t = omega (arith, long t s) in rw (enough_out t s i, k);
        is = λ t s.
            let k : length (flatten t) ≡ 6 * nodes t = flatten-length t in
            let l : leb (length (flatten t)) (length old) ≡ true = rw k (enough_out t s i) in
            let m : 0 + e ≡ length (flatten t) = omega (arith, long t s) in
            let q : take e room ≡ flatten t = s.is in
            rw l ((wrote-so-is copy_test w i).2 ∙ ap (λ (d : ℕ). take e room ++ drop d old) m ∙ ap (λ (ws : List ℕ). ws ++ drop (length (flatten t)) old) q);
      }

  module _ {a : std.Result ℕ Refusal} (k : a ≡ ok_or x refusal.Short) where
    pub writes-full : {y : Refusal} → a ≡ Err y → {r : std.Result ℕ Refusal} → r ≡ Err y → WritesTree room e old r new
    writes-full i q = let z = copied-not k i in rw (q, z.1) (full z.0)

    pub writes-tree : {n : ℕ} → a ≡ Ok n → WritesTree room e old (Ok (e / 6)) new
    writes-tree i = written (copied-so k i)

-- ---- `write_outcome`
module _ {o : Outcome} {room : List ℕ} where
  pub writes-large : {old : List ℕ} {x : Refusal} → Stands o (Err x) room → {r : std.Result (Option ℕ) Refusal} → r ≡ Err x → Writes o old r old
  unfolding number_of tree_says tree_answer tree_out
  writes-large h e = let k = stands-large o h in record { says = rw (e, k.0, k.1); is = rw k.0 }

  module _ {a : std.Result (Option ℕ) Refusal} (h : Stands o a room) {x : Option ℕ} (q : a ≡ Ok x) where
    pub writes-none : {old : List ℕ} → x ≡ None → Writes o old (Ok None) old
    unfolding tree_says tree_answer tree_out
    writes-none i = let k = stands_none o h (q ∙ ap (λ (x : Option ℕ). Ok x) i) in record { says = rw k; is = rw k }

    module _ {e : ℕ} (i : x ≡ Some e) {old : List ℕ} {w : std.Result ℕ Refusal} {new : List ℕ} (p : WritesTree room e old w new) where
      told : (r : std.Result (Option ℕ) Refusal) → words_say w ≡ tree_says r → Writes o old r new
      told r s = let there : TreeIn o e room = stands-tree o h (q ∙ ap (λ (x : Option ℕ). Ok x) i) in record { says = sym s ∙ p.says there.tree there.stands ∙ ap (λ (o : Outcome). tree_answer o (length old)) (sym there.is); is = p.is there.tree there.stands ∙ ap (λ (o : Outcome). tree_out o old) (sym there.is) }

      pub outcome-written : {n : ℕ} → w ≡ Ok n → Writes o old (Ok (Some n)) new
      unfolding words_say tree_says
      outcome-written {n} j = told (Ok (Some n)) (ap words_say j)

      pub outcome-full : {y : Refusal} → w ≡ Err y → {r : std.Result (Option ℕ) Refusal} → r ≡ Err y → Writes o old r new
      unfolding words_say tree_says
      outcome-full {y} j {r} k = told r (rw (j, k))

pub ruleset writing = (rules, tells-stands, writes-full, writes-tree, writes-large, writes-none, outcome-written, outcome-full)

-- ---- the public functions
pub cleared-same : {new : List ℕ} (mid old : List ℕ) → new ≡ cleared mid → length mid ≡ length old → new ≡ cleared old
unfolding cleared
cleared-same mid old e l = e ∙ ap (λ (n : ℕ). replicate n 0) l

-- ---- `tree_answer`: the answer and the words of out, by the refusal
abbrev refused_of : List ℕ → Owner → ℕ → ℕ → ℕ
refused_of f o lines room = refused_tree f (ltb (number_in o) (count f (section_in o))) lines room

answer_is : (f : List ℕ) (o : Owner) (out lines room : ℕ) → answer_in f o out lines room ≡ answered (refused_of f o lines room) refuses (λ u. tree_answer (outcome_in f o) out)
unfolding type_tree_answer type_refused variable_tree_answer variable_refused
answer_is f (owner.Type t) out lines room = refl
answer_is f (owner.Variable v) out lines room = refl

out_is : (f : List ℕ) (o : Owner) (out : List ℕ) (lines room : ℕ) → out_in f o out lines room ≡ answered (refused_of f o lines room) (λ n. out) (λ u. tree_out (outcome_in f o) out)
unfolding type_tree_out type_refused variable_tree_out variable_refused
out_is f (owner.Type t) out lines room = refl
out_is f (owner.Variable v) out lines room = refl

module _ (f : List ℕ) (o : Owner) (lines room : ℕ) {section number : ℕ} (a : section ≡ section_in o) (b : number ≡ number_in o) where
  same_refused : refused_tree f (ltb number (count f section)) lines room ≡ refused_of f o lines room
  same_refused = rw (a, b)

  module _ (x : Refusal) (e : number_of x ≡ refused_tree f (ltb number (count f section)) lines room) where
    pub answer-refused : (out : ℕ) {r : std.Result (Option ℕ) Refusal} → r ≡ Err x → tree_says r ≡ answer_in f o out lines room
    unfolding tree_says
    answer-refused out q = rw (answer_is f o out lines room, q, ← same_refused, ← e) (rw (not-zero x))

    pub out-refused : (old : List ℕ) → old ≡ out_in f o old lines room
    out-refused old = rw (out_is f o old lines room, ← same_refused, ← e) (rw (not-zero x))

  module _ (z : refused_tree f (ltb number (count f section)) lines room ≡ 0) {s : List ℕ} (is : s ≡ f) where
    pub owner-passed : Passed s (section_in o) (number_in o) lines room
    owner-passed = rw (is, ← a, ← b) (passed f section number lines room z refl)

    module _ {old : List ℕ} {r : std.Result (Option ℕ) Refusal} {new : List ℕ} (w : Writes (outcome_in s o) old r new) where
      pub answer-passed : tree_says r ≡ answer_in f o (length old) lines room
      answer-passed = rw (answer_is f o (length old) lines room, ← same_refused, z, ← is) w.says

      pub out-passed : new ≡ out_in f o old lines room
      out-passed = rw (out_is f o old lines room, ← same_refused, z, ← is) w.is
