use Rattle.driver.proofs.leaving.left_graph.Goals as goal

pub returns-in-Ok : goal.returns-in-Ok
returns-in-Ok c = record { same = c.in-Ok.ensures.ok; is = c.value_count.ensures.graph }
