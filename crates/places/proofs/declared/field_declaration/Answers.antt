-- `declared::field_declaration` meets its contract. Assumes nothing.
use Rattle.places.proofs.declared.Laws.{structure-type, structure-kind}
use Rattle.places.proofs.declared.field_declaration.Goals as goal

pub element_declaration-requires : goal.element_declaration-requires
element_declaration-requires c =
    let a = c.args.file.now.accepted in
    (structure-type _ a _ c.requires c.in_ok-structure.ensures, structure-kind _ a _ c.requires c.in_ok-structure.ensures)
