-- `planfile::grid::Grid::find` meets its contract: where nothing is found from `start` on, the first place is the position.
use Rattle.std.proofs.Common.{◌∙◌}
use Rattle.planfile.proofs.PositionLaws.{found_first}
use Rattle.planfile.proofs.grid.Grid.find.Goals as goal

pub returns : goal.returns
returns c = c.first_place.ensures ∙ found_first c.args.self.names.now c.args.name
