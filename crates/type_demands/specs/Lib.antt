pub mod NodeDemands
