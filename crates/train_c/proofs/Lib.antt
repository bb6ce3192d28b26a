-- Laws of trains beside single calls: the code of a refusal is never 0 (Numbered), a train loses nothing (LosesNothing), going on by
-- lengths and octets is going on by segments (GoingOn), and its answer has the figures of its response's map (TrainFigures).
pub mod Numbered
pub mod LosesNothing
pub mod GoingOn
pub mod TrainFigures
