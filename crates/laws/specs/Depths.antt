-- How deep entries and shapes nest in an accepted file: what they point to nests less deep, and so the work words that any file wants are bounded. Assumes nothing.
use Rattle.std.specs.Prelude.{◌≡◌, List}
use Rattle.std.proofs.Math.Path.{refl}
use Rattle.std.proofs.Common.{sym, ap, ◌∙◌, lit<}
use Prim.Native.Nat.{ℕ, zero, suc, ◌+◌, ◌≤◌, ◌<◌, max}
use native.Mathlib.Omega.{arith}
use Rattle.std.proofs.Math.Decide.{ℕ_discrete}
use Rattle.definition.specs.declared.records.Shape.{Shape}
use Rattle.definition.specs.declared.records.Shape.TheVariants as shape
use Rattle.definition.specs.declared.records.Entry.{Entry}
use Rattle.definition.specs.declared.records.Entry.TheVariants as entry
use Rattle.definition.specs.Layout.{limits_of_records, most_records, count, word, shapes, shape_fields, entries}
use Rattle.definition.specs.Records.{shape_at, entry_at}
use Rattle.definition.specs.Depth.{deepest, entry_depth_from, entry_depth_up_to, entry_depth, shape_depth_from, shape_depth_up_to, shape_depth, levels}
use Rattle.definition.specs.Answers.{line_words, room_words}
use Rattle.laws.specs.Lower.{fuel, from-lower}
use Rattle.laws.specs.Accepted.{Accepted, count_most, few-types}
use Rattle.laws.specs.Pointed.{run_at, InArray, InMembers, ShapePointed, EntryPointed, shape-pointed, entry-pointed}

-- ---- the greatest of so many depths
module _ (d : ℕ → ℕ) where
  pub deepest-at : (first many n : ℕ) → first ≤ n → n < first + many → d n ≤ deepest d first many
  unfolding deepest
  deepest-at first zero n l h = absurd (omega arith)
  deepest-at first (suc many) n l h = go (ℕ_discrete n first) (λ m. deepest-at (suc first) many n m (omega arith))
    where
      go : Dec (n ≡ first) → (suc first ≤ n → d n ≤ deepest d (suc first) many) → d n ≤ max (d first) (deepest d (suc first) many)
      go (yes e) ih = rw e (omega arith)
      go (no e) ih = let b = ih (omega (arith, e)) in omega arith

  pub deepest-most : (first many most : ℕ) → ((n : ℕ) → first ≤ n → n < first + many → d n ≤ most) → deepest d first many ≤ most
  unfolding deepest
  deepest-most first zero most h = omega arith
  deepest-most first (suc many) most h =
      let l = deepest-most (suc first) many most (λ n a b. h n (omega arith) (omega arith)) in
      omega (arith, h first (omega arith) (omega arith))

  -- one more, at the end of the run
  pub deepest-more : (first many : ℕ) → max (deepest d first many) (d (first + many)) ≡ deepest d first (suc many)
  unfolding deepest
  deepest-more first zero = let e : first + 0 ≡ first = omega arith in rw e (omega arith)
  deepest-more first (suc many) =
      let e : suc first + many ≡ first + suc many = omega arith in
      let i = rw e at (deepest-more (suc first) many) in
      omega arith

  pub deepest-same : (g : ℕ → ℕ) (first many : ℕ) → ((n : ℕ) → first ≤ n → n < first + many → d n ≡ g n) → deepest d first many ≡ deepest g first many
  unfolding deepest
  deepest-same g first zero h = refl
  deepest-same g first (suc many) h =
      rw (h first (omega arith) (omega arith), deepest-same g (suc first) many (λ n a b. h n (omega arith) (omega arith)))

-- ---- one record, from lower ones
-- a depth is 1, or one more than a lower record's, or than the deepest of a run that leads to lower records
pub data Step (n : ℕ) (from : (ℕ → ℕ) → ℕ) : Type 0 where
  leaf : ((below : ℕ → ℕ) → from below ≡ 1) → Step n from
  over : (i : ℕ) → i < n → ((below : ℕ → ℕ) → from below ≡ suc (below i)) → Step n from
  run : (at : ℕ → ℕ) (first many : ℕ) → ((k : ℕ) → first ≤ k → k < first + many → at k < n)
      → ((below : ℕ → ℕ) → from below ≡ suc (deepest (λ k. below (at k)) first many)) → Step n from

module _ {n : ℕ} {from : (ℕ → ℕ) → ℕ} where
  step_same : Step n from → (d g : ℕ → ℕ) → ((i : ℕ) → i < n → d i ≡ g i) → from d ≡ from g
  step_same (leaf h) d g e = h d ∙ sym (h g)
  step_same (over i l h) d g e = h d ∙ ap suc (e i l) ∙ sym (h g)
  step_same (run at first many l h) d g e =
      h d ∙ ap suc (deepest-same (λ k. d (at k)) (λ k. g (at k)) first many (λ k a b. e (at k) (l k a b))) ∙ sym (h g)

  step-least : Step n from → (d : ℕ → ℕ) → 1 ≤ from d
  step-least (leaf h) d = omega (arith, h d)
  step-least (over i l h) d = omega (arith, h d)
  step-least (run at first many l h) d = omega (arith, h d)

  step-most : Step n from → (d : ℕ → ℕ) → ((i : ℕ) → i < n → d i ≤ n) → from d ≤ suc n
  step-most (leaf h) d e = omega (arith, h d)
  step-most (over i l h) d e = omega (arith, h d, e i l)
  step-most (run at first many l h) d e =
      omega (arith, h d, deepest-most (λ k. d (at k)) first many n (λ k a b. e (at k) (l k a b)))

-- ---- every record of a section
module _ (many : ℕ) (from : ℕ → (ℕ → ℕ) → ℕ) (up_to : ℕ → ℕ → ℕ) (steps : (n : ℕ) → n < many → Step n (from n))
    (next : (k n : ℕ) → up_to (suc k) n ≡ from n (up_to k)) where
  same : (n : ℕ) → n < many → (d g : ℕ → ℕ) → ((i : ℕ) → i < n → d i ≡ g i) → from n d ≡ from n g
  same n i d g e = step_same (steps n i) d g e

  depth-fuel : (k m n : ℕ) → n < k → n < m → n < many → up_to k n ≡ up_to m n
  depth-fuel = fuel many from up_to same next

  depth_is : (n : ℕ) → n < many → up_to (suc n) n ≡ from n (λ j. up_to (suc j) j)
  depth_is = from-lower many from up_to same next

  depth-most : (n : ℕ) → n < many → up_to (suc n) n ≤ suc n
  depth-most n i = go (suc n) n (omega arith) i
    where
      go : (k n : ℕ) → n < k → n < many → up_to (suc n) n ≤ suc n
      go zero n h i = absurd (omega arith)
      go (suc k) n h i =
          let m = step-most (steps n i) (λ j. up_to (suc j) j) (λ j b. let r = go k j (omega arith) (omega arith) in omega arith) in
          omega (arith, depth_is n i)

-- ---- entries and shapes, by their views
entry-step : (f : List ℕ) (e : ℕ) (v : Entry) → EntryPointed f e v → Step e (λ below. entry_depth_from below v)
unfolding entry_depth_from
entry-step f e (entry.Constant number) p = leaf (λ below. refl)
entry-step f e (entry.Enumerated value qualifier) p = leaf (λ below. refl)
entry-step f e (entry.Array first many) p = run (λ k. k) first many (λ k l h. (run_at (λ i. (i < e) × InArray f i) first many p.1 k l h).0) (λ below. refl)
entry-step f e (entry.Structure first many) p = run (λ k. k) first many (λ k l h. (run_at (λ i. (i < e) × InMembers f i) first many p.1 k l h).0) (λ below. refl)
entry-step f e (entry.Expression number) p = leaf (λ below. refl)
entry-step f e entry.LateBound p = leaf (λ below. refl)
entry-step f e (entry.Repeat many zero) p = leaf (λ below. refl)
entry-step f e (entry.Repeat many (suc i)) p = over i p.0 (λ below. refl)
entry-step f e entry.Unknown p = absurd p

shape-step : (f : List ℕ) (n : ℕ) (v : Shape) → ShapePointed f n v → Step n (λ below. shape_depth_from f below v)
unfolding shape_depth_from
shape-step f n shape.Bool p = leaf (λ below. refl)
shape-step f n (shape.Int bits) p = leaf (λ below. refl)
shape-step f n (shape.UInt bits) p = leaf (λ below. refl)
shape-step f n (shape.Real bits) p = leaf (λ below. refl)
shape-step f n (shape.Bytes bits) p = leaf (λ below. refl)
shape-step f n (shape.Time bits) p = leaf (λ below. refl)
shape-step f n (shape.Date bits) p = leaf (λ below. refl)
shape-step f n (shape.TimeOfDay bits) p = leaf (λ below. refl)
shape-step f n (shape.DateAndTime bits) p = leaf (λ below. refl)
shape-step f n (shape.String length width) p = leaf (λ below. refl)
shape-step f n (shape.Enumeration first many default underlying) p = leaf (λ below. refl)
shape-step f n (shape.Structure first many) p =
    run (λ k. word f shape_fields k 1) first many (run_at (λ k. word f shape_fields k 1 < n) first many p.1) (λ below. refl)
shape-step f n (shape.Array element first many) p = over element p.0 (λ below. refl)
shape-step f n (shape.Subrange base least greatest) p = leaf (λ below. refl)
shape-step f n (shape.FunctionBlock name) p = leaf (λ below. refl)
shape-step f n (shape.Interface name) p = leaf (λ below. refl)
shape-step f n (shape.Reference target) p = leaf (λ below. refl)
shape-step f n shape.Unknown p = absurd p

-- ---- an accepted file
module _ (f : List ℕ) (a : Accepted f) where
  entry-steps : (e : ℕ) → e < count f entries → Step e (λ below. entry_depth_from below (entry_at f e))
  entry-steps e h = entry-step f e (entry_at f e) (entry-pointed f a e h)

  shape-steps : (n : ℕ) → n < count f shapes → Step n (λ below. shape_depth_from f below (shape_at f n))
  shape-steps n h = shape-step f n (shape_at f n) (shape-pointed f a n h)

  next-entry : (k e : ℕ) → entry_depth_up_to f (suc k) e ≡ entry_depth_from (entry_depth_up_to f k) (entry_at f e)
  unfolding entry_depth_up_to
  next-entry k e = refl

  next-shape : (k n : ℕ) → shape_depth_up_to f (suc k) n ≡ shape_depth_from f (shape_depth_up_to f k) (shape_at f n)
  unfolding shape_depth_up_to
  next-shape k n = refl

  pub entry-depth-up_to : (k e : ℕ) → e < k → e < count f entries → entry_depth_up_to f k e ≡ entry_depth f e
  unfolding entry_depth
  entry-depth-up_to k e h i = depth-fuel (count f entries) (λ e below. entry_depth_from below (entry_at f e)) (entry_depth_up_to f) entry-steps next-entry k (suc e) e h (omega arith) i

  pub shape-depth-up_to : (k n : ℕ) → n < k → n < count f shapes → shape_depth_up_to f k n ≡ shape_depth f n
  unfolding shape_depth
  shape-depth-up_to k n h i = depth-fuel (count f shapes) (λ n below. shape_depth_from f below (shape_at f n)) (shape_depth_up_to f) shape-steps next-shape k (suc n) n h (omega arith) i

  -- a depth is one more than those of what it points to
  pub entry-depth-is : (e : ℕ) → e < count f entries → entry_depth f e ≡ entry_depth_from (entry_depth f) (entry_at f e)
  unfolding entry_depth
  entry-depth-is = depth_is (count f entries) (λ e below. entry_depth_from below (entry_at f e)) (entry_depth_up_to f) entry-steps next-entry

  pub shape-depth-is : (n : ℕ) → n < count f shapes → shape_depth f n ≡ shape_depth_from f (shape_depth f) (shape_at f n)
  unfolding shape_depth
  shape-depth-is = depth_is (count f shapes) (λ n below. shape_depth_from f below (shape_at f n)) (shape_depth_up_to f) shape-steps next-shape

  -- and follows from any table of the lower ones
  pub entry-depth-from : (below : ℕ → ℕ) (e : ℕ) → e < count f entries → ((i : ℕ) → i < e → below i ≡ entry_depth f i) → entry_depth_from below (entry_at f e) ≡ entry_depth f e
  entry-depth-from below e h q = step_same (entry-steps e h) below (entry_depth f) q ∙ sym (entry-depth-is e h)

  pub shape-depth-from : (below : ℕ → ℕ) (n : ℕ) → n < count f shapes → ((i : ℕ) → i < n → below i ≡ shape_depth f i) → shape_depth_from f below (shape_at f n) ≡ shape_depth f n
  shape-depth-from below n h q = step_same (shape-steps n h) below (shape_depth f) q ∙ sym (shape-depth-is n h)

  pub entry-depth-most : (e : ℕ) → e < count f entries → entry_depth f e ≤ suc e
  unfolding entry_depth
  entry-depth-most = depth-most (count f entries) (λ e below. entry_depth_from below (entry_at f e)) (entry_depth_up_to f) entry-steps next-entry

  pub shape-depth-most : (n : ℕ) → n < count f shapes → shape_depth f n ≤ suc n
  unfolding shape_depth
  shape-depth-most = depth-most (count f shapes) (λ n below. shape_depth_from f below (shape_at f n)) (shape_depth_up_to f) shape-steps next-shape

  pub entry-depth-least : (e : ℕ) → e < count f entries → 1 ≤ entry_depth f e
  entry-depth-least e h = omega (arith, step-least (entry-steps e h) (entry_depth f), entry-depth-is e h)

  pub shape-depth-least : (n : ℕ) → n < count f shapes → 1 ≤ shape_depth f n
  shape-depth-least n h = omega (arith, step-least (shape-steps n h) (shape_depth f), shape-depth-is n h)

  -- what an entry points to nests less deep
  module _ (e : ℕ) (h : e < count f entries) where
    listed-nests : (first many : ℕ) → entry_depth_from (entry_depth f) (entry_at f e) ≡ suc (deepest (entry_depth f) first many)
        → (k : ℕ) → first ≤ k → k < first + many → entry_depth f k < entry_depth f e
    listed-nests first many q k l b = omega (arith, entry-depth-is e h, q, deepest-at (entry_depth f) first many k l b)

    pub array-nests : (first many : ℕ) → entry_at f e ≡ entry.Array first many → (k : ℕ) → first ≤ k → k < first + many → entry_depth f k < entry_depth f e
    unfolding entry_depth_from
    array-nests first many q = listed-nests first many (rw q)

    pub structure-nests : (first many : ℕ) → entry_at f e ≡ entry.Structure first many → (k : ℕ) → first ≤ k → k < first + many → entry_depth f k < entry_depth f e
    unfolding entry_depth_from
    structure-nests first many q = listed-nests first many (rw q)

    pub repeat-nests : (many inner : ℕ) → entry_at f e ≡ entry.Repeat many (suc inner) → entry_depth f inner < entry_depth f e
    unfolding entry_depth_from
    repeat-nests many inner q = let d : entry_depth f e ≡ suc (entry_depth f inner) = rw q at (entry-depth-is e h) in omega arith

  -- what a shape's value holds nests less deep
  module _ (n : ℕ) (h : n < count f shapes) where
    pub fields-nest : (first many : ℕ) → shape_at f n ≡ shape.Structure first many → (k : ℕ) → first ≤ k → k < first + many
        → shape_depth f (word f shape_fields k 1) < shape_depth f n
    unfolding shape_depth_from
    fields-nest first many q k l b =
        let d : shape_depth f n ≡ suc (deepest (λ k. shape_depth f (word f shape_fields k 1)) first many) = rw q at (shape-depth-is n h) in
        omega (arith, deepest-at (λ k. shape_depth f (word f shape_fields k 1)) first many k l b)

    pub element-nests : (element first many : ℕ) → shape_at f n ≡ shape.Array element first many → shape_depth f element < shape_depth f n
    unfolding shape_depth_from
    element-nests element first many q = let d : shape_depth f n ≡ suc (shape_depth f element) = rw q at (shape-depth-is n h) in omega arith

  -- ---- levels, and the work words
  pub deepest-entry : deepest (entry_depth f) 0 (count f entries) ≤ count f entries
  deepest-entry = deepest-most (entry_depth f) 0 (count f entries) (count f entries) (λ e l h. let b : e < count f entries = omega arith in omega (arith, entry-depth-most e b))

  pub deepest-shape : deepest (shape_depth f) 0 (count f shapes) ≤ count f shapes
  deepest-shape = deepest-most (shape_depth f) 0 (count f shapes) (count f shapes) (λ n l h. let b : n < count f shapes = omega arith in omega (arith, shape-depth-most n b))

  pub few-entries : count f entries ≤ 8192
  unfolding most_records limits_of_records
  few-entries = count_most f a entries (lit< tt)

  pub few-shapes : count f shapes ≤ 1024
  unfolding most_records limits_of_records
  few-shapes = count_most f a shapes (lit< tt)

  pub levels-most : levels f ≤ 9217
  unfolding levels
  levels-most = omega (arith, deepest-entry, deepest-shape, few-entries, few-shapes)

  pub line-words-most : line_words f ≤ 12585984
  unfolding line_words
  line-words-most = omega (arith, few-types f a)

  pub room-words-most : room_words f ≤ 226516992
  unfolding room_words
  room-words-most = omega (arith, levels-most)

  -- document 01, after the refusals: at most 268,435,456
  pub work-words-most : line_words f + room_words f ≤ 268435456
  work-words-most = omega (arith, line-words-most, room-words-most)

-- an entry and a shape of a file reach no further than its levels
pub entry-level : (f : List ℕ) (e : ℕ) → e < count f entries → entry_depth f e < levels f
unfolding levels
entry-level f e h = omega (arith, deepest-at (entry_depth f) 0 (count f entries) e (omega arith) (omega arith))

pub shape-level : (f : List ℕ) (n : ℕ) → n < count f shapes → shape_depth f n < levels f
unfolding levels
shape-level f n h = omega (arith, deepest-at (shape_depth f) 0 (count f shapes) n (omega arith) (omega arith))
