use Rattle.table_print.proofs.Printed.{same_texts}
use Rattle.table_print.proofs.printing.table_texts.Goals as goal

pub prefix_text-requires : goal.prefix_text-requires
prefix_text-requires c = rw (c.in_ok-roots.ensures, c.as_slice.ensures) c.requires.psr4

pub prefix_text-requires-2 : goal.prefix_text-requires-2
prefix_text-requires-2 c = rw (c.in_ok-roots.ensures, c.as_slice-2.ensures) c.requires.psr0

pub class_text-requires : goal.class_text-requires
class_text-requires c = rw (c.in_ok-roots.ensures, c.as_slice-3.ensures) c.requires.class_map

pub file_text-requires : goal.file_text-requires
file_text-requires c = rw (c.in_ok-roots.ensures, c.as_slice-4.ensures) c.requires.files

pub returns-clause-texts : goal.returns-clause-texts
returns-clause-texts c = same_texts c.args.project.now c.args.tables.now c.in_ok-psr4.psr4 c.in_ok-psr0.psr0 c.in_ok-class_map.class_map c.in_ok-files.files c.in_ok-state.state
    (rw (c.in_ok-roots.ensures, c.as_slice.ensures) at c.in_ok-psr4.ensures.text)
    (rw (c.in_ok-roots.ensures, c.as_slice-2.ensures) at c.in_ok-psr0.ensures.text)
    (rw (c.in_ok-roots.ensures, c.as_slice-3.ensures) at c.in_ok-class_map.ensures.text)
    (rw (c.in_ok-roots.ensures, c.as_slice-4.ensures) at c.in_ok-files.ensures.text)
    c.in_ok-state.ensures.text
