-- The statements of specs/Statements.antt, proved.
use mathlib.Core.Path.{refl}
use Rattle.basis.specs.Statements.{Table, ExactlyWhen, Width}
use Rattle.basis.proofs.Order.{exactly_number, exactly_first, exactly_further}
use Rattle.basis.proofs.Order.{exactly_result}
use Rattle.basis.proofs.LittleEndian.{long, are_bytes, read_back, written_back, below}

pub table : Table
table =
    record {
      taken = refl;
      held = refl;
      malformed = refl;
      carrier = refl;
      lever = refl;
      step = refl;
      conflict = refl;
      late = refl;
      full = refl;
      world = refl;
      room = refl;
      backward = refl;
      end = refl;
      log = refl;
      fault = refl;
      load = refl;
      rope = refl;
    }

pub exactly_when : ExactlyWhen
exactly_when =
    record {
      number = exactly_number;
      first = exactly_first;
      further = exactly_further;
      result = exactly_result;
    }

pub width : Width
width = record
    { long = long; bytes = are_bytes; read = read_back; written = written_back; below = below }
