-- The lent parts of a world, as the code hands them on, and the world that they are.
use Rattle.fleet.specs.declared.site.Site.{Site}
use Rattle.fleet.specs.State.{World, world_of}

-- Its yard, its cells and its boxes, as one.
abbrev pub world_at : Site → World
world_at site = world_of site.yard site.cells.now site.boxes.now
