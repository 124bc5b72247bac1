-- A refusal that a part of a call answers, handed on by the call.
use mathlib.Core.Path.{◌≡◌, ap}
use Rattle.std.specs.Prelude.{Result, Ok, Err, IsErrAnd}
use Rattle.basis.specs.Order.{Answer, refused}
use Rattle.basis.specs.Refusal.{number_of, answer_of}
use Rattle.basis.specs.declared.Refusal.{Refusal}
use Rattle.session.specs.Lent.{Lent, Made, as_before, tells, leaves}

pub handed_on : {A : Type 0} (r : Result A Refusal) {why : Refusal} → IsErrAnd r (λ e. e ≡ why)
    → r ≡ Err why
handed_on (Ok a) h = absurd h
handed_on (Err e) h = ap Err h

-- It leaves all as it was lent.
pub refuses : {A : Type 0} (l : Lent) (r : Result A Refusal) (why : Refusal) {a : Answer (Made A)}
    → IsErrAnd r (λ e. e ≡ why) → a ≡ refused (number_of why)
    → tells answer_of (as_before r l) ≡ leaves l a
refuses l r why h e = rw (handed_on r h, e)

-- It is the answer, where nothing is left.
pub refusal : {A : Type 0} (r : Result A Refusal) (why : Refusal) → IsErrAnd r (λ e. e ≡ why)
    → answer_of r ≡ refused (number_of why)
refusal r why h = ap answer_of (handed_on r h)
