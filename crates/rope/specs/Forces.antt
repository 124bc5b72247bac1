-- Document 02, §8: the forces on a point, and their sum. The operations are those of IEEE 754
-- binary64 (lib.Ieee): each result is rounded to the nearest f64, and a zero keeps its sign.
use Rattle.std.specs.Prelude.{Bool, true, false, ◌&&◌, List, [], ◌∷◌, pos, Float}
use Rattle.std.specs.Float.{fin, binary64, float_is_finite}
use Rattle.std.specs.Float.Ieee.{add, sub, mul, neg}
use Rattle.rope.specs.declared.Point.{Point}
use Rattle.rope.specs.declared.Force.{Force}
use Rattle.rope.specs.declared.Force.TheVariants.{Pull, Spring, Drag}

-- 0.0
abbrev pub plus_zero : Float
plus_zero = fin false 0 (pos 0)

-- -0.0
abbrev pub minus_zero : Float
minus_zero = fin true 0 (pos 0)

-- 'Pull is the size; spring is stiffness times (rest minus place); drag is minus (factor times
-- speed).'
unfoldable pub force_on : Point → Force → Float
force_on point (Pull size) = size
force_on point (Spring stiffness rest) = mul binary64 stiffness (sub binary64 rest point.place)
force_on point (Drag factor) = neg (mul binary64 factor point.speed)

-- 'Forces are added in list order', to what is summed so far.
unfoldable pub sum_from : Point → Float → List Force → Float
sum_from point sum [] = sum
sum_from point sum (force ∷ forces) =
    sum_from point (add binary64 sum (force_on point force)) forces

-- 'starting from 0.0'
abbrev pub sum_of : Point → List Force → Float
sum_of point forces = sum_from point plus_zero forces

-- A force's numbers are finite.
unfoldable pub finite_force : Force → Bool
finite_force (Pull size) = float_is_finite size
finite_force (Spring stiffness rest) = float_is_finite stiffness && float_is_finite rest
finite_force (Drag factor) = float_is_finite factor

-- So are those of all of these forces.
unfoldable pub finite_forces : List Force → Bool
finite_forces [] = true
finite_forces (force ∷ forces) = finite_force force && finite_forces forces
