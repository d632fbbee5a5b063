use Rattle.std.proofs.Common.{◌+◌, ◌-◌, ◌*◌, length}
use Rattle.lists.proofs.+read_element_read_list.Given as goal

abbrev pub decreases-read_element : goal.decreases-read_element
decreases-read_element g l = 2 * (length l.s.now - l.at)

abbrev pub decreases-read_list : goal.decreases-read_list
decreases-read_list g l = 2 * (length l.s.now - l.at) + 1
