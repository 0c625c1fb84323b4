-- The cycle of `apply_members`, `array`, `expand`, `expand_all`, `fill`, `fill_values`, `member`, `member_structure`, `push_repeat`, `push_structure`, `repeat_entry`, `set_member` meets its contracts. Assumes nothing.
use Rattle.definition.specs.Base.{on_link}
use Rattle.definition.specs.Depth.{deepest, entry_depth}
use Rattle.entries.proofs.Nesting.{AllInv}
use Rattle.entries.proofs.Building.{ApplyInv}
use Prim.Native.Nat.{◌+◌, ◌*◌}
use Rattle.entries.proofs.entries.+entries_of_places.Given as goal

abbrev pub decreases-apply_members : goal.decreases-apply_members
decreases-apply_members l = 16 * deepest (entry_depth l.known.now.file) l.first l.count + 14

abbrev pub invariant-apply_members-loop-e : goal.invariant-apply_members-loop-e
invariant-apply_members-loop-e l =
    ApplyInv l.known.file l.known.index l.known.store l.first l.count l.place l.initial.room l.at l.end l.e l.upto l.room

abbrev pub decreases-array : goal.decreases-array
decreases-array l = 16 * deepest (entry_depth l.known.now.file) l.first l.count + 10

abbrev pub decreases-expand : goal.decreases-expand
decreases-expand l = 16 * entry_depth l.known.now.file l.e + 1

abbrev pub decreases-expand_all : goal.decreases-expand_all
decreases-expand_all l = 16 * deepest (entry_depth l.known.now.file) l.first l.count + 7

abbrev pub invariant-expand_all-loop-e : goal.invariant-expand_all-loop-e
invariant-expand_all-loop-e l =
    AllInv l.known.file l.known.index l.known.store l.first l.count l.leaf l.fn.l l.initial.room l.at l.e l.to l.now l.room

abbrev pub decreases-fill : goal.decreases-fill
decreases-fill l = 16 * deepest (entry_depth l.known.now.file) l.first l.count + 9

abbrev pub decreases-fill_values : goal.decreases-fill_values
decreases-fill_values l = 16 * deepest (entry_depth l.known.now.file) l.first l.count + 8

abbrev pub decreases-member : goal.decreases-member
decreases-member l = 16 * entry_depth l.known.now.file l.e + 12

abbrev pub decreases-member_structure : goal.decreases-member_structure
decreases-member_structure l = 16 * deepest (entry_depth l.known.now.file) l.first l.count + 15

abbrev pub decreases-push_repeat : goal.decreases-push_repeat
decreases-push_repeat l = 16 * on_link l.link 0 (entry_depth l.known.now.file) + 15

abbrev pub decreases-push_structure : goal.decreases-push_structure
decreases-push_structure l = 16 * deepest (entry_depth l.known.now.file) l.first l.count + 15

abbrev pub decreases-repeat_entry : goal.decreases-repeat_entry
decreases-repeat_entry l = 16 * entry_depth l.known.now.file l.e + 2

abbrev pub decreases-set_member : goal.decreases-set_member
decreases-set_member l = 16 * entry_depth l.known.now.file l.e + 13
