mod StepLemmas
mod NodeStepLemmas
