use Rattle.house.proofs.table.TableLattice.meet.Goals as goal

pub returns-in-Listed : goal.returns-in-Listed
returns-in-Listed c = simp c.in-Listed.is c.meet.ensures

pub returns-in-Graded : goal.returns-in-Graded
returns-in-Graded c = simp c.in-Graded.is c.meet-in-Graded.ensures
