use Rattle.std.proofs.Common.{◌+◌, ◌*◌}
use Rattle.vt_type.specs.Variational.{nodes, vkids_nodes}
use Rattle.vt_show.proofs.writer.+writer.Given as goal

-- What is left to write falls from a type to its head, to its form, and to its children.
abbrev pub decreases-write_type : goal.decreases-write_type
decreases-write_type l = 3 * nodes l.vtype.now

abbrev pub decreases-write_con : goal.decreases-write_con
decreases-write_con l = 3 * vkids_nodes l.kids.now + 2

abbrev pub decreases-write_list : goal.decreases-write_list
decreases-write_list l = 3 * vkids_nodes l.kids.now + 1

abbrev pub decreases-write_pair : goal.decreases-write_pair
decreases-write_pair l = 3 * vkids_nodes l.kids.now + 1

abbrev pub decreases-write_arrow : goal.decreases-write_arrow
decreases-write_arrow l = 3 * vkids_nodes l.kids.now + 1
