-- The statements of specs/Statements.antt, proved.
use Rattle.basis.proofs.Order.{one_result}
use Rattle.fleet.specs.Statements.{Words, FreeFor, Start, StateRule, OneStep, Runs, SavedRows}
use Rattle.fleet.specs.Statements.{Determined, GoingBack}
use Rattle.fleet.proofs.Words.{only_carriers, length_put, length_start}
use Rattle.fleet.proofs.Carriers.{carrier_put, carrier_other, all_keeps, log_step, within}
use Rattle.fleet.proofs.Carriers.{free_as_yard, free_own, free_stays, state_sound}
use Rattle.fleet.proofs.Starts.{carrier_start, start_sound}
use Rattle.fleet.proofs.Steps.{each_moved, same_all}
use Rattle.fleet.proofs.Joined.{joined, saving_joined, saving_state, run_keeps}
use Rattle.fleet.proofs.Joined.{same_run, saving_same}
use Rattle.fleet.proofs.SavedRows.{course_fits, rows_made, rows_earlier}
use Rattle.fleet.proofs.Back.{back_state, back_row}

pub determined : Determined
determined = record { cleared = λ rows. one_result }

pub words : Words
words =
    record {
      back = carrier_put;
      others = λ i k c state room. carrier_other i c state room k;
      room = length_put;
      only = λ world. only_carriers world.yard.b;
    }

pub free_for : FreeFor
free_for =
    record {
      in_yard = free_as_yard;
      own = λ world i c state x y room. free_own world i c state room x y;
      others = free_stays;
    }

pub start : Start
start =
    record {
      room = λ world. length_start world.boxes world.yard.b;
      rest = λ world. carrier_start world.boxes world.yard.b;
      sound = start_sound;
    }

pub state_rule : StateRule
state_rule = record { means = state_sound }

pub one_step : OneStep
one_step =
    record {
      each = each_moved;
      same = same_all;
      stays = λ world levers state fits s. all_keeps world levers fits state s;
      log = λ world held log t state l. log_step l t state;
    }

pub runs : Runs
runs =
    record {
      joined = joined;
      joined_saving = saving_joined;
      state = saving_state;
      stays = λ world held log t k state l s. run_keeps world _ t k state (within l) s;
      same = same_run;
      same_saving = saving_same;
    }

pub saved_rows : SavedRows
saved_rows =
    record {
      room = λ world list t k course fits. course_fits world list t course fits k;
      row = λ world list t k course fits. rows_made world list t course fits k;
      earlier = λ world list t k course fits. rows_earlier world list t course fits k;
    }

pub going_back : GoingBack
going_back = record { state = back_state; row = back_row }
