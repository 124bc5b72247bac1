-- The statements of specs/Statements.antt, proved.
use mathlib.Core.Path.{refl}
use Rattle.basis.proofs.Order.{one_result}
use Rattle.yard.specs.Statements.{
  Determined,
  Free,
  Rule9,
  Every,
  Table,
  Brake,
  Move,
  Step,
}
use Rattle.yard.proofs.Brake.{ten, past, forward, backward, stands, from_25, from_minus_3}
use Rattle.yard.proofs.Every.{passes, all_pass}
use Rattle.yard.proofs.Fits.{ranges, cells, sizes, starts}
use Rattle.yard.proofs.Limits.{push_within, speed_within}
use Rattle.yard.proofs.Squares.{free_at, near}
use Rattle.yard.proofs.Walk.{walked, only}
use Rattle.yard.proofs.Soundness.{rule, rest_sound, step_sound, step_same}

pub free : Free
free = record { means = free_at; near = near }

pub determined : Determined
determined =
    record {
      ranges = λ yard. one_result;
      cells = λ cells. one_result;
      magnitude = λ z. one_result;
    }

pub rule9 : Rule9
rule9 = record { ranges = ranges; cells = cells; sizes = sizes; starts = starts }

pub every : Every
every = record { means = λ test n. (passes test n, all_pass test n) }

pub table : Table
table = record { nine = refl; push = push_within; speed = speed_within }

pub brake : Brake
brake =
    record {
      ten = ten;
      past = past;
      forward = forward;
      backward = backward;
      stands = stands;
      from25 = from_25;
      from_minus3 = from_minus_3;
    }

pub move : Move
move = record { walked = walked; only = only }

pub step : Step
step = record { rule = rule; rest = rest_sound; stays = step_sound; same = step_same }
