use Rattle.std.proofs.Common.{◌+◌, ◌*◌, length}
use Rattle.vt_show.proofs.reader.+reader.Given as goal

-- The text gets shorter, or the part that is read gets smaller.
abbrev pub decreases-read_arrow : goal.decreases-read_arrow
decreases-read_arrow l = 4 * length l.text.now + 2

abbrev pub decreases-read_pair : goal.decreases-read_pair
decreases-read_pair l = 4 * length l.text.now + 1

abbrev pub decreases-read_atom : goal.decreases-read_atom
decreases-read_atom l = 4 * length l.text.now

abbrev pub decreases-read_list : goal.decreases-read_list
decreases-read_list l = 4 * length l.text.now + 3

abbrev pub decreases-read_inside : goal.decreases-read_inside
decreases-read_inside l = 4 * length l.text.now + 3

abbrev pub decreases-read_choice : goal.decreases-read_choice
decreases-read_choice l = 4 * length l.text.now + 3
