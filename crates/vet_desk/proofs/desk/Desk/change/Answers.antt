use Rattle.vet_desk.proofs.desk.Desk.change.Goals as goal

pub returns-in-WithdrawReview-clause-change : goal.returns-in-WithdrawReview-clause-change
returns-in-WithdrawReview-clause-change c =
    rw c.in-WithdrawReview.is (c.withdraw.ensures c.args.day c.in-WithdrawReview.member)
