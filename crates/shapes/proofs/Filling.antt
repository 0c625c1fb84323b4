-- A table that is filled through the front of the words that are lent for it. Assumes nothing.
use mathlib.Core.Path.{◌≡◌}
use mathlib.Core.List.{List, [], ◌++◌}
use Prim.Native.Nat.{ℕ, ◌≤◌}
use native.Mathlib.Omega.{arith}
use lib.ListN.{length, take, drop}
use lib.Seq.{length-take-le}
use Rattle.std.proofs.lemmas.List.{drop_all, append-nil}
use borrow.Author.Rules.{rules}
use Rattle.records.specs.Tables.{table_of, Filled}
use Rattle.records.proofs.Filling.{none_filled, one-filled}

pub front-filled : {g : ℕ → ℕ} {n many : ℕ} {lent words : List ℕ} → Filled g n (take many lent) words → length (take many lent) ≤ n → many ≤ length lent
    → Filled g many lent (words ++ drop many lent)
front-filled {g} {n} {many} {lent} {words} i l h =
    let e : length (take many lent) ≡ many = length-take-le many lent h in
    let q : n ≡ many = omega (arith, e, l, i.room) in
    let d : drop n (take many lent) ≡ [] = drop_all n (take many lent) l in
    record { room = h; is = rw (i.is, d, append-nil (table_of g n), q) }

pub ruleset filling = (rules, none_filled, one-filled, front-filled)
