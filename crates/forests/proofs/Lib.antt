-- Laws that the proofs of the crate's functions share. They lead from the definitions of the order and the forests to the code:
-- specs/ says what the scan's lists hold after each step, a law says what one part of a step does to them, and a function's proof
-- cites the law in the code's terms.
-- First the parts of a step: chains of links, counts, the links counted at each relay, those of them with a withdrawn end, the
-- relay with the most, the bits that the counts stand in, both before the first step, the relay that leads in them, and the walk
-- over the links of a relay.
pub mod ChainLaws
pub mod CountLaws
pub mod LinkCountLaws
pub mod IdleLinkLaws
pub mod BusiestLaws
pub mod BucketLaws
pub mod StartLaws
pub mod LeadLaws
pub mod WalkLaws
pub mod WalkTurns
-- Then a step as a whole: the definition's order after k relays, how few links a waiting relay has to placed ones, that the relay
-- with the greatest count comes next, what its step does to counts, places and forest numbers, and what they are after the last.
pub mod OrderLaws
pub mod WeightLaws
pub mod ChoiceLaws
pub mod StepLaws
pub mod PlaceLaws
pub mod FinishLaws
-- Then the scan from its start to its end, in arrays that fit, with places and forest numbers cleared before; and the left table
-- from what it gives.
pub mod SizeLaws
pub mod ClearLaws
pub mod ScanLaws
pub mod EnterLaws
pub mod LeftTableLaws
-- Last the answers of Order, Split and Cut, way by way.
pub mod AnswerLaws
