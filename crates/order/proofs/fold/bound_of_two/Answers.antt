use Rattle.order.proofs.fold.bound_of_two.Goals as goal

pub returns-in-Join : goal.returns-in-Join
returns-in-Join g c = simp c.in-Join.is c.join.ensures

pub returns-in-Meet : goal.returns-in-Meet
returns-in-Meet g c = simp c.in-Meet.is c.meet.ensures
