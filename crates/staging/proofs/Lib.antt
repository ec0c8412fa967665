-- Laws about the definitions, each by itself.
pub mod ConditionLaws
pub mod BareLaws
pub mod OneSitting
pub mod PolicyLaws
pub mod Before
pub mod Arms
pub mod SizeLaws
pub mod FormLaws
pub mod ConsultedLaws
pub mod Bound
pub mod Entries
pub mod Stages
pub mod Contradictions
pub mod Demand3
pub mod Witness
pub mod WitnessLevels
