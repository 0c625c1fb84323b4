-- The two sections of variables, counted and written side by side. Assumes nothing.
use mathlib.Core.Path.{◌≡◌, sym, subst, ◌∙◌}
use mathlib.Core.List.{List, [], ◌∷◌, ◌++◌}
use Prim.Native.Nat.{ℕ, ◌+◌, ◌*◌, ◌≤◌, ◌<◌}
use native.Mathlib.Omega.{arith}
use lib.ListN.{length}
use borrow.Author.Rules.{rules}
use Rattle.definition.specs.Layout.{count, variables}
use Rattle.definition.specs.Lines.{variable_line, completed_line}
use Rattle.definition.specs.Sheet.{lines_from}
use Rattle.sheet_parts.specs.declared.line.Line.{Line}
use Rattle.sheet_parts.specs.declared.variables.Both.{Both}
use Rattle.laws.specs.Puts.{Puts, puts_none, puts-long, puts_then}
use Rattle.sheet_parts.specs.Line.{LineFits, ValueLies, LineLies}
use Rattle.sheet_parts.specs.Section.{section_of, LinesLong, SectionsLong, PutsBoth, BothRoom, WritingBoth, SectionsRoom}
use Rattle.sheet_parts.proofs.Putting.{puts-swap}
use Rattle.sheet_parts.proofs.Lining.{value-few, value-long, value-fits, value-puts, line-few, line-long, line-fits, line-puts}
use Rattle.sheet_parts.proofs.Sections.{lines-last, lines_none, lines-within, section-starts, section-next}

-- ---- counted
pub lines-counted : {f : List ℕ} {v : ℕ} {line : Line} {room : List ℕ} → ValueLies (variable_line f v) line room → {slot : Line} {room' : List ℕ} → LineLies (completed_line f v) slot room'
    → {a b : ℕ} → a ≡ 2 + line.nodes * 6 → b ≡ 3 + slot.nodes * 6 → LinesLong f v (record { value = a; completed = b })
lines-counted y z i j =
    record {
      value = record { is = omega (arith, value-long y); most = omega (arith, value-few y) };
      completed = record { is = omega (arith, line-long z); most = omega (arith, line-few z) };
    }

module _ {f : List ℕ} {v : ℕ} {words : Both} where
  pub both-counted : SectionsLong f v words → {more : Both} → LinesLong f v more → SectionsLong f (v + 1) (record { value = words.value + more.value; completed = words.completed + more.completed })
  both-counted x l = record { value = section-next (variable_line f) x.value l.value; completed = section-next (completed_line f) x.completed l.completed }

  pub both-all : {m : ℕ} → SectionsLong f v words → m ≡ count f variables → v ≤ m → m ≤ v → SectionsLong f (count f variables) words
  both-all x e g h = let k : v ≡ count f variables = omega arith in subst (λ (j : ℕ). SectionsLong f j words) k x

pub both-none : (f : List ℕ) → SectionsLong f 0 (record { value = 1; completed = 1 })
both-none f = record { value = section-starts (variable_line f); completed = section-starts (completed_line f) }

-- ---- written
-- two words, or two lines, at their places
pub both-put : {vs ws old mid new : List ℕ} {at : Both} {a b : ℕ} → Puts vs old at.value a mid → Puts ws mid at.completed b new
    → PutsBoth vs ws old at (record { value = a; completed = b }) new
both-put {vs} {ws} {old} {mid} p q = record { mid = mid; value = p; completed = q }

module _ {vs ws : List ℕ} {at : Both} where
  pub value_room : {out : ℕ} → BothRoom vs ws at out → {line : Line} {room : List ℕ} → ValueLies vs line room → LineFits line (length room) at.value out
  value_room {out} x y = value-fits y at.value out (omega (arith, x.apart, x.room))

  pub slot-room : {old : List ℕ} → BothRoom vs ws at (length old) → {us : List ℕ} {a r : ℕ} {mid : List ℕ} → Puts us old a r mid → at.completed + length ws ≤ length mid
  slot-room x p = omega (arith, x.room, puts-long p)

-- one behind the other, at both places
both-then : {vs ws old mid : List ℕ} {at r : Both} → PutsBoth vs ws old at r mid → {us xs new : List ℕ} {e : Both} → PutsBoth us xs mid r e new → e.value ≤ at.completed
    → PutsBoth (vs ++ us) (ws ++ xs) old at e new
both-then p q h =
    let s = puts-swap p.completed q.value h in
    record { mid = s.mid; value = puts_then p.value s.first; completed = puts_then s.last q.completed }

both_long : {vs ws old new : List ℕ} {at r : Both} → PutsBoth vs ws old at r new → length new ≡ length old
both_long p = puts-long p.completed ∙ puts-long p.value

-- where the first ends the others begin
both-joined : {vs ws old new : List ℕ} {at r : Both} → PutsBoth vs ws old at r new → r.value ≡ at.completed → Puts (vs ++ ws) old at.value r.completed new
both-joined {vs} {ws} {old} {new} {at} {r} p e = puts_then p.value (subst (λ (b : ℕ). Puts ws p.mid b r.completed new) (sym e) p.completed)

module _ {f : List ℕ} {at : Both} where
  pub counts-room : {out : ℕ} → SectionsRoom f at out → (m : ℕ) → BothRoom (m ∷ []) (m ∷ []) at out
  unfolding section_of
  counts-room x m = record { apart = omega (arith, x.next); room = omega (arith, x.room) }

  pub both-starts : {old : List ℕ} → SectionsRoom f at (length old) → {m : ℕ} {ends : Both} {mid : List ℕ} → PutsBoth (m ∷ []) (m ∷ []) old at ends mid → WritingBoth f mid ends 0 ends mid
  unfolding section_of
  both-starts {old} x {m} {ends} {mid} p =
      record {
        puts = rw (lines_none (variable_line f), lines_none (completed_line f)) (record {
          mid = mid;
          value = puts_none mid ends.value (omega (arith, p.value.fits, both_long p));
          completed = puts_none mid ends.completed (omega (arith, p.completed.fits, puts-long p.completed));
        });
        room = record {
          apart = omega (arith, x.next, p.value.ends, p.completed.ends);
          room = omega (arith, x.room, p.completed.ends, both_long p);
        };
      }

module _ {f old : List ℕ} {at : Both} {v : ℕ} {ends : Both} {out : List ℕ} (x : WritingBoth f old at v ends out) where
  pub both-room : {many : ℕ} → many ≡ count f variables → v < many → BothRoom (variable_line f v) (completed_line f v) ends (length out)
  both-room c l =
      let p = x.puts in
      let h : v < count f variables = omega arith in
      record {
        apart = omega (arith, lines-within (variable_line f) v (count f variables) h, x.room.apart, p.value.ends, p.completed.ends);
        room = omega (arith, lines-within (completed_line f) v (count f variables) h, x.room.room, p.completed.ends, both_long p);
      }

  pub both-next : {many : ℕ} → many ≡ count f variables → v < many → {e : Both} {new : List ℕ} → PutsBoth (variable_line f v) (completed_line f v) out ends e new → WritingBoth f old at (v + 1) e new
  both-next c i {e} {new} q =
      let h : v < count f variables = omega arith in
      let l : e.value ≤ at.completed = omega (arith, lines-within (variable_line f) v (count f variables) h, x.room.apart, x.puts.value.ends, q.value.ends) in
      record { puts = rw (lines-last (variable_line f) v, lines-last (completed_line f) v) (both-then x.puts q l); room = x.room }

  pub both-done : {m : ℕ} → m ≡ count f variables → v ≤ m → m ≤ v → {first : List ℕ} {a : Both} → SectionsRoom f a (length first) → PutsBoth (m ∷ []) (m ∷ []) first a at old
      → Puts (section_of (variable_line f) (count f variables) ++ section_of (completed_line f) (count f variables)) first a.value ends.completed out
  unfolding section_of
  both-done {m} e g h {first} {a} s q =
      let k : v ≡ count f variables = omega arith in
      let w : PutsBoth (lines_from (variable_line f) 0 (count f variables)) (lines_from (completed_line f) 0 (count f variables)) old at ends out = rw k at x.puts in
      let n : PutsBoth (count f variables ∷ []) (count f variables ∷ []) first a at old = rw e at q in
      let i : ends.value ≡ a.completed = omega (arith, w.value.ends, n.value.ends, s.next) in
      both-joined (both-then n w (omega arith)) i

pub ruleset counting = (rules, value-few, line-few, lines-counted, both-none, both-counted, both-all)

pub ruleset putting = (rules, line-fits, line-puts, value_room, value-puts, slot-room, both-put)

pub ruleset both = (rules, counts-room, both-starts, both-room, both-next, both-done)
