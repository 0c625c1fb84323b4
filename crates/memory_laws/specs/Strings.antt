-- A string's bytes read again, and characters that are listed. Assumes nothing.
use Rattle.std.specs.Prelude.{◌≡◌, refl, true, ℕ, suc, ◌-◌, ◌*◌, ◌^◌, ◌<◌, eqb, take, drop, replicate}
use Rattle.std.proofs.Math.Path.{ap}
use Rattle.std.proofs.Common.{sym, ◌∙◌, add-one, length-append, take_at, drop_at}
use mathlib.Core.List.{List, [], ◌∷◌, ◌++◌, append_assoc, append-nil}
use Rattle.std.proofs.Math.Nat.{mod-eq_of_lt}
use Rattle.std.proofs.Math.Dec.{eqb-suc-zero}
use Rattle.std.proofs.Math.ListN.{length}
use Rattle.std.proofs.Math.Seq.{append_snoc, get_or-append_seam}
use Rattle.definition.specs.Base.{pick}
use Rattle.memory_definition.specs.Numbers.{little_endian, number_from, character_bytes, text_bytes, string_bytes, text_from, length_from, string_from}
use Rattle.memory_definition.specs.Forms.{characters_from, listed, every_below}
use Rattle.memory_laws.specs.Bytes.{le-long, number-le, text-read}

module _ (most width : ℕ) (cs : List ℕ) (short : length cs < 65536) where
  -- what stands behind the two lengths
  behind : List ℕ
  behind = text_bytes (character_bytes width) cs ++ replicate (character_bytes width * (most - length cs)) 0

  lengths : List ℕ
  lengths = little_endian 2 most ++ little_endian 2 (length cs)

  parts : string_bytes most width cs ≡ lengths ++ behind
  unfolding string_bytes lengths behind
  parts = append_assoc (little_endian 2 most ++ little_endian 2 (length cs)) (text_bytes (character_bytes width) cs) (replicate (character_bytes width * (most - length cs)) 0)

  pub string-length : length_from (string_bytes most width cs) ≡ length cs
  unfolding length_from lengths
  string-length =
      ap (λ l. number_from (take 2 (drop 2 l))) (parts ∙ append_assoc (little_endian 2 most) (little_endian 2 (length cs)) behind)
      ∙ ap (λ l. number_from (take 2 l)) (drop_at (little_endian 2 most) (little_endian 2 (length cs) ++ behind) 2 (le-long 2 most))
      ∙ ap number_from (take_at (little_endian 2 (length cs)) behind 2 (le-long 2 (length cs)))
      ∙ number-le 2 (length cs)
      ∙ mod-eq_of_lt short

  pub string-read : every_below (256 ^ character_bytes width) cs ≡ true → string_from width (string_bytes most width cs) ≡ cs
  unfolding string_from lengths behind
  string-read e =
      let front : length (little_endian 2 most ++ little_endian 2 (length cs)) ≡ 4 = simp (length-append, le-long) in
      ap (λ n. text_from (character_bytes width) n (drop 4 (string_bytes most width cs))) string-length
      ∙ ap (λ l. text_from (character_bytes width) (length cs) (drop 4 l)) parts
      ∙ ap (λ l. text_from (character_bytes width) (length cs) l) (drop_at lengths behind 4 front)
      ∙ text-read (character_bytes width) cs (replicate (character_bytes width * (most - length cs)) 0) e

-- ---- characters that stand somewhere in a list
listed_at : (xs cs ys : List ℕ) → characters_from (listed (xs ++ (cs ++ ys))) (length xs) (length cs) ≡ cs
unfolding characters_from listed
listed_at xs [] ys = refl
listed_at xs (c ∷ cs) ys =
    let long : length (xs ++ (c ∷ [])) ≡ suc (length xs) = length-append xs (c ∷ []) ∙ add-one (length xs) in
    let more = listed_at (xs ++ (c ∷ [])) cs ys in
    let moved : characters_from (listed (xs ++ (c ∷ (cs ++ ys)))) (suc (length xs)) (length cs) ≡ cs =
    ap (λ n. characters_from (listed (xs ++ (c ∷ (cs ++ ys)))) n (length cs)) (sym long)
    ∙ ap (λ l. characters_from (listed l) (length (xs ++ (c ∷ []))) (length cs)) (sym (append_snoc xs c (cs ++ ys)))
    ∙ more in
    ap (λ x. x ∷ characters_from (listed (xs ++ (c ∷ (cs ++ ys)))) (suc (length xs)) (length cs)) (get_or-append_seam xs c (cs ++ ys) 0)
    ∙ ap (λ l. c ∷ l) moved

string-at : (xs cs ys : List ℕ) → characters_from (listed (xs ++ (cs ++ ys))) (pick (eqb (length cs) 0) 0 (length xs)) (length cs) ≡ cs
unfolding characters_from
string-at xs [] ys = refl
string-at xs (c ∷ cs) ys = rw (eqb-suc-zero (length cs)) (listed_at xs (c ∷ cs) ys)

-- those of a string of n characters, which begins at 0 if it has none
module _ (cs : List ℕ) (n : ℕ) (many : length cs ≡ n) where
  pub listed-string : (xs ys : List ℕ) → characters_from (listed (xs ++ (cs ++ ys))) (pick (eqb n 0) 0 (length xs)) n ≡ cs
  listed-string xs ys = ap (λ m. characters_from (listed (xs ++ (cs ++ ys))) (pick (eqb m 0) 0 (length xs)) m) (sym many) ∙ string-at xs cs ys

  pub listed-own : characters_from (listed cs) (pick (eqb n 0) 0 0) n ≡ cs
  listed-own = ap (λ l. characters_from (listed l) (pick (eqb n 0) 0 0) n) (sym (append-nil cs)) ∙ listed-string [] []
