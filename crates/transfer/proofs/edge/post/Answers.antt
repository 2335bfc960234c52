use Rattle.std.proofs.Common.{rules}
use Rattle.transfer.proofs.Fits.{edge_there, fit_at, large_at}
use Rattle.transfer.proofs.edge.post.Goals as goal

pub returns-clause-fits : goal.returns-clause-fits
returns-clause-fits c =
    fit_at c.args.flow.now c.args.edge c.in-Some.edge.now (edge_there c.args.flow.now.edges c.as_slice.result.now c.args.edge c.in-Some.edge.now (search rules) (search rules) (search rules)) c.requires.flow c.post_along.result c.post_along.ensures.fits

pub returns-clause-large : goal.returns-clause-large
returns-clause-large c =
    large_at c.args.flow.now c.args.edge c.in-Some.edge.now (edge_there c.args.flow.now.edges c.as_slice.result.now c.args.edge c.in-Some.edge.now (search rules) (search rules) (search rules)) c.args.graph.now c.post_along.result c.post_along.ensures.large
