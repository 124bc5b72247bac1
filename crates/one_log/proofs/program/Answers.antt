-- `program` meets its contract.
use native.Mathlib.Omega.{arith}
use borrow.Author.Rules.{rules}
use Rattle.one_log.proofs.Written.{few_bytes, writes_log, writes_number}
use Rattle.one_log.proofs.program.Goals as goal

pub overflow_mul-result : goal.overflow_mul-result
overflow_mul-result c =
    omega (arith, few_bytes _ _ _ c.merge_logs.new.out c.requires.room _ c.in-Ok.ensures.merged)

pub returns-in-Ok : goal.returns-in-Ok
returns-in-Ok c =
    let after = c.merge_logs.new.out in
    let merges = c.in-Ok.ensures.merged in
    record {
      written = (
        few_bytes _ _ _ after c.requires.room _ merges,
        writes_log _ _ _ after c.requires.room _ merges,
      );
    }

pub returns-in-Err : goal.returns-in-Err
returns-in-Err c =
    let refuses = c.in-Err.ensures.merged in
    record {
      written = (
        omega arith,
        rw c.from.ensures
            (writes_number _ _ _ c.merge_logs.new.out c.requires.room _ refuses (search rules)),
      );
    }
