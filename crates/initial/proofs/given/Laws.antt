-- What `entries` answers, in the words of `build`. Assumes nothing.
use borrow.Enum.Refused.{opened}
use mathlib.Core.Path.{◌≡◌, refl, ap, sym, ◌∙◌}
use mathlib.Core.List.{List}
use Prim.Native.Nat.{ℕ, ◌+◌, ◌*◌, ◌≤◌}
use native.Mathlib.Omega.{arith}
use lib.ListN.{length}
use borrow.Author.Rules.{rules}
use borrow.Author.Tests.{le-leb, eq-eqb, ne_eqb}
use Rattle.definition.specs.declared.records.Place.{Place}
use Rattle.definition.specs.Layout.{count, entries}
use Rattle.definition.specs.Syntax.{inits_at}
use Rattle.definition.specs.Tree.{Tree, node, head, parts, many, flatten, structure_tree}
use Rattle.definition.specs.Ask.{Outcome, Ask}
use Rattle.definition.specs.Starting.{members, array_of}
use Rattle.definition.specs.Resolve.{Memo}
use Rattle.definition.specs.Peek.{peek}
use Rattle.laws.specs.Steps.{peek-nothing}
use Rattle.laws.specs.Values.{Small}
use Rattle.laws.specs.Whole.{Good, flatten-length, nodes-some}
use Rattle.laws.specs.Gathers.{gathered-parts}
use Rattle.tree.specs.Words.{Stand, WroteNode}
use Rattle.tree.specs.Node.{head_words}
use Rattle.tree.specs.declared.part.Value.{Value}
use Rattle.tree.specs.declared.part.Value.TheVariants as value
use Rattle.tree.specs.Part.{value_at, value_is}
use Rattle.tree.proofs.Fields.{value_there, kind-structure, parts-stand}
use Rattle.tree.proofs.Standing.{headed-there}
use Rattle.build.specs.declared.built.Unbuilt.{Unbuilt}
use Rattle.build.specs.declared.built.Unbuilt.TheVariants as unbuilt
use Rattle.build.specs.Built.{Built, Gives, Builds, Ready}
use Rattle.gather.proofs.Copying.{value-structure}
use Rattle.gather.specs.Answers as answers
use Rattle.gather.specs.Room.{RoomThere, shapes_deep, rooms, Structure}
use Rattle.entries.specs.Entries.{run_depth, FieldsThere, BuildsArray}
use Rattle.entries.specs.Entries as entering
use Rattle.build.proofs.leaves.Laws.{node_kept}
use Rattle.initial.specs.Stated.{ArrayIn, MembersIn, SmallAt, Applies}
use Rattle.initial.specs.Rooms.{entry_levels}
use Rattle.std.specs.Prelude.{Err, None, Ok, Option, Some}
use Rattle.std.specs.Prelude as std
use Rattle.std.specs.Option.{ok_or}

-- ---- what `entries` asks of its arguments
pub array-inside : {f : List ℕ} {first many : ℕ} → ArrayIn f first many → first + many ≤ count f entries
array-inside i = i.inside

pub members-inside : {f : List ℕ} {first many : ℕ} → MembersIn f first many → first + many ≤ count f entries
members-inside i = i.inside

room-is : (f : List ℕ) (first many : ℕ) (place : Place) (at n : ℕ) → at + entry_levels f first many place * 12288 ≤ n → at + rooms f (run_depth f first many) ≤ n
unfolding entry_levels shapes_deep
room-is f first many place at n h = omega arith

pub array-there : (f : List ℕ) (first many : ℕ) (place : Place) {s : List ℕ} {at : ℕ} → at + entry_levels f first many place * 12288 ≤ length s → RoomThere s at (rooms f (run_depth f first many))
array-there f first many place {s} {at} h = record { room = room-is f first many place at (length s) h }

-- ---- an answer
gives_of : (M : Memo) (m : Ask Outcome) (at : ℕ) (r : Built) (s : List ℕ) → answers.Builds M m at r s → Gives flatten (peek M m) at r s
gives_of M m at (Ok e) s h =
    let i : e ≡ at + length (flatten h.tree) = omega (arith, h.ends, flatten-length h.tree) in
    rw h.is (record { says = ap Ok i; stands = rw i at h.stands })
gives_of M m at (Err unbuilt.None) s h = rw h (record { says = refl; stands = tt })
gives_of M m at (Err unbuilt.TooLarge) s h = rw h (record { says = refl; stands = tt })
gives_of M m at (Err (unbuilt.Wanted d)) s h = rw h (record { says = refl; stands = tt })

no-structure : (t : Tree) {w : Value} → w ≡ value_is t → ((count : ℕ) → w ≡ value.Structure count → ⊥) → (head t).kind ≡ 14 → ⊥
no-structure t k o c = o (many (parts t)) (k ∙ value-structure t c)

module _ {f classes index store : List ℕ} (y : Ready f classes index store) (place : Place) (first many : ℕ) {old : List ℕ} (at : ℕ)
    (l : at + entry_levels f first many place * 12288 ≤ length old) where
  -- ---- `array_of`
  pub array-given : {r : Built} {new : List ℕ} → BuildsArray f index store place first many old at r new → Builds f index store flatten (array_of f place first many) at old r new
  array-given {r} {new} w =
      let h = room-is f first many place at (length old) l in
      record {
        gives = λ M k. gives_of M (array_of f place first many) at r new (w.says M k h).builds;
        kept = (w.says y.memo y.memory h).kept;
      }

  -- ---- `apply_members`
  module _ {end : ℕ} (z : SmallAt old at end) {v : Option Value} (q : v ≡ value_at old at) where
    no-members : ((t : Tree) → Stand old at (flatten t) end → Good t → (head t).kind ≡ 14 → ⊥) → Applies f index store place first many at end old (Err unbuilt.None) old
    no-members h =
        record {
          gives = λ t s x M k.
              let n : (head t).kind ≡ 14 → ⊥ = h t x s.good in
              rw (ne_eqb (head t).kind 14 n, peek-nothing M) (record { says = refl; stands = tt });
          kept = refl;
        }

    -- what `?` hands on
    pub members-none : {a : std.Result Value Unbuilt} → a ≡ ok_or v unbuilt.None → {u : Unbuilt} → a ≡ Err u → {r : Built} → r ≡ Err u → Applies f index store place first many at end old r old
    members-none c {u} i {r} e = go v q (sym c ∙ i)
      where
        go : (v : Option Value) → v ≡ value_at old at → ok_or v unbuilt.None ≡ Err u → Applies f index store place first many at end old r old
        go None k j =
            let n : u ≡ unbuilt.None = cc in
            rw (e, n) (no-members (λ t x g c.
            let y : None ≡ Some (value_is t) = k ∙ value_there old at t end g x in
            let w : ◌≡◌ {A = ℕ} 0 1 = cc in
            omega arith))
        go (Some w) k j = let n : ◌≡◌ {A = ℕ} 0 1 = cc in absurd (omega arith)

    pub members-other : {w : Value} → v ≡ Some w → ((count : ℕ) → w ≡ value.Structure count → ⊥) → Applies f index store place first many at end old (Err unbuilt.None) old
    members-other {w} i o =
        no-members (λ t x g c.
        let y : Some w ≡ Some (value_is t) = sym i ∙ q ∙ value_there old at t end g x in
        let k : w ≡ value_is t = cc in
        no-structure t k o c)

    module _ {val : Value} (j : v ≡ Some val) {n : ℕ} (i : val ≡ value.Structure n) {x : Option ℕ} {mid : List ℕ} (u : WroteNode old at (head_words 14 n) x mid) (g : length mid ≡ length old) where
      headed-so : (t : Tree) → Small t → Stand old at (flatten t) end → Structure mid at end (rooms f (run_depth f first many)) (parts t)
      unfolding structure_tree
      headed-so t s d =
          let e : Some (value_is t) ≡ Some val = sym (value_there old at t end s.good d) ∙ sym q ∙ j in
          let k : value_is t ≡ val = cc in
          let c = kind-structure t n s.good (k ∙ i) in
          let b : at + 6 ≤ length old = omega (arith, d.long, d.fits, flatten-length t, nodes-some t) in
          let p = rw (le-leb (at + 6) (length old) b) at u.is in
          record {
            stands = headed-there old at 14 (parts t) end (parts-stand old at t end d) (rw c.1 p);
            whole = gathered-parts t s.good s.few;
            room = rw g (room-is f first many place at (length old) l);
          }

      pub members-there : FieldsThere mid at end (rooms f (run_depth f first many))
      members-there = record { fields = parts z.tree; there = headed-so z.tree z.small z.stands }

      pub members-given : {r : Built} {new : List ℕ} → entering.Applies f index store first many place mid at end r new → Applies f index store place first many at end old r new
      members-given {r} {new} w =
          record {
            gives = λ t s d M k.
                let e : Some (value_is t) ≡ Some val = sym (value_there old at t end s.good d) ∙ sym q ∙ j in
                let l : value_is t ≡ val = cc in
                let c = kind-structure t n s.good (l ∙ i) in
                rw (eq-eqb (head t).kind 14 c.0) (gives_of M (members f (inits_at f first many) place (parts t)) at r new (w.says M k (parts t) (headed-so t s d)).builds);
            kept = (w.says y.memo y.memory (parts z.tree) (headed-so z.tree z.small z.stands)).kept ∙ node_kept u;
          }

pub ruleset laws = (rules, opened, array-inside, members-inside, array-there, members-there, array-given, members-none, members-other, members-given)
