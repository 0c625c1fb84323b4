-- The tables: the index is lent and put back, and the shape classes before it stay. Assumes nothing.
use mathlib.Core.Path.{◌≡◌, refl, ap, sym, ◌∙◌}
use mathlib.Core.List.{List, ◌++◌, append-nil}
use Prim.Native.Nat.{ℕ, ◌+◌, ◌-◌, ◌≤◌, ◌<◌}
use native.Mathlib.Omega.{arith}
use lib.ListN.{length, get_or, take, drop, length-append, length-drop, drop_of_length-le}
use lib.Seq.{get_or-take, get_or-drop, length-take-le, take_all, take_at, drop_at}
use borrow.Author.Rules.{rules}
use borrow.Rule.Slice.PartMut.{put_mid, same_len_mid, take_put, mid_len}
use Rattle.definition.specs.Answers.{room_words}
use Rattle.laws.specs.Accepted.{Accepted, few-types}
use Rattle.laws.specs.Depths.{few-shapes}
use Rattle.shapes.specs.Classes.{classes_of, Classes, classes-at}
use Rattle.build.specs.Built.{index_at, index_in}
use Rattle.driver.specs.Tables.{Front}
use Rattle.driver.specs.Driver.{Given, Prepared}

-- what a caller hands on that has the shape classes in so many words as `KNOWN_WORDS` says
pub tables-given : {f : List ℕ} {room : ℕ} → Accepted f → room_words f ≤ room → (words : List ℕ) {known : List ℕ} → known ≡ classes_of f ++ words → length known ≡ 2048 → Given f known room
tables-given {f} a r words c l =
    record {
      accepted = a;
      classed = rw c (classes-at f words);
      tables = omega (arith, few-types f a);
      roomy = r;
    }

pub index-long : (known : List ℕ) → length (index_in known) ≡ length known - index_at
index-long known = mid_len index_at (length known) known (omega arith)

pub index_word : (known : List ℕ) (t d : ℕ) → index_at + t < length known → get_or (index_in known) t d ≡ get_or known (index_at + t) d
index_word known t d h = get_or-take (length known - index_at) (drop index_at known) t d (omega arith) ∙ get_or-drop index_at known t d

-- ---- the index put back
module _ (known : List ℕ) (h : index_at ≤ length known) (part : List ℕ) (l : length part ≡ length (index_in known)) where
  back_long : length (put_mid index_at (length known - index_at) known part) ≡ length known
  back_long = same_len_mid index_at (length known - index_at) known part l

  pub back-front : Front known (put_mid index_at (length known - index_at) known part)
  back-front = record { front = take_put index_at (length known - index_at) known part h; long = back_long }

  back_whole : put_mid index_at (length known - index_at) known part ≡ take index_at known ++ part
  back_whole = rw (drop_of_length-le (drop index_at known) {i = length known - index_at} (simp length-drop (omega arith)), append-nil)

  pub back_index : index_in (put_mid index_at (length known - index_at) known part) ≡ part
  back_index =
      let back : List ℕ = put_mid index_at (length known - index_at) known part in
      take_all (length back - index_at) (drop index_at back) (simp length-drop (omega arith))
      ∙ ap (drop index_at) back_whole
      ∙ drop_at (take index_at known) part index_at (length-take-le index_at known h)

-- ---- the classes stay
pub front_same : (known : List ℕ) → Front known known
front_same known = record { front = refl; long = refl }

pub front-then : {a b c : List ℕ} → Front a b → Front b c → Front a c
front-then p q = record { front = q.front ∙ p.front; long = q.long ∙ p.long }

pub front-classes : {f known known' : List ℕ} → Accepted f → Classes f known → Front known known' → Classes f known'
front-classes {f} {known} {known'} a c p =
    record {
      at = λ n h.
          let l : n < index_at = omega (arith, few-shapes f a) in
          sym (get_or-take index_at known' n n l) ∙ ap (λ (s : List ℕ). get_or s n n) p.front ∙ get_or-take index_at known n n l ∙ c.at n h;
    }

-- ---- the tables taken apart, and joined again
module _ (known : List ℕ) (h : index_at ≤ length known) where
  pub index-behind : index_in known ≡ drop index_at known
  index-behind = take_all (length known - index_at) (drop index_at known) (simp length-drop (omega arith))

module _ {known front : List ℕ} (e : front ≡ take index_at known) (l : length front ≡ index_at) where
  parts-classes : {f : List ℕ} → Accepted f → Classes f known → Classes f front
  parts-classes {f} a c =
      record {
        at = λ n h.
            let k : n < index_at = omega (arith, few-shapes f a) in
            ap (λ (s : List ℕ). get_or s n n) e ∙ get_or-take index_at known n n k ∙ c.at n h;
      }

  pub parts-given : {f : List ℕ} {room : ℕ} → Given f known room → {n : ℕ} → n + index_at ≡ length known → Prepared f front n room
  parts-given g i = record { accepted = g.accepted; classed = parts-classes g.accepted g.classed; typed = omega (arith, g.tables); roomy = g.roomy }

  pub parts-front : (index : List ℕ) → length index + index_at ≡ length known → Front known (front ++ index)
  parts-front index i = record { front = take_at front index index_at l ∙ e; long = length-append front index ∙ omega arith }

pub parts-index : (front index : List ℕ) → length front ≡ index_at → index_in (front ++ index) ≡ index
parts-index front index l = index-behind (front ++ index) (rw (length-append front index) (omega arith)) ∙ drop_at front index index_at l

pub ruleset tabling = (rules, parts-given, parts-front, parts-index)
